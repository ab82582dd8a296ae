use Rattle.agent_hub.specs.Submits.{IsSeatOf}
use Rattle.thread_tests.proofs.jobs.use_until_ok.Given as goal

abbrev pub invariant-loop : goal.invariant-loop
invariant-loop g l = IsSeatOf l.hub l.seat
