use Rattle.agent_hub.specs.Submits.{IsSeatOf}
use Rattle.thread_tests.proofs.hub.lines.serve_many.Given as goal

abbrev pub invariant-loop-conn : goal.invariant-loop-conn
invariant-loop-conn g l = IsSeatOf l.hub l.seat
