use Rattle.std.proofs.Common.{◌≤◌}
use Rattle.agent_hub.specs.Submits.{IsSeatOf}
use Rattle.agent_hub.specs.Asking.{Asked}
use Rattle.agent_hub.proofs.questions.serve_asks.Given as goal

abbrev pub invariant-loop : goal.invariant-loop
invariant-loop g l = record {
  seat : IsSeatOf l.hub l.seat;
  told : Asked l.fn.seat l.seat (g.D.Dialer.told l.fn.dialer) (g.D.Dialer.told l.dialer) (g.D.Dialer.faults l.fn.dialer) (g.D.Dialer.faults l.dialer);
  counted : g.D.Dialer.faults l.fn.dialer ≤ g.D.Dialer.faults l.dialer;
}
