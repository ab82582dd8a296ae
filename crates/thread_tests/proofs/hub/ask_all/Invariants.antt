use Rattle.agent_hub.specs.Submits.{IsSeatOf}
use Rattle.thread_tests.proofs.hub.ask_all.Given as goal

abbrev pub invariant-loop : goal.invariant-loop
invariant-loop g l = IsSeatOf l.hub l.seat
