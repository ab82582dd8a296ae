use Rattle.std.proofs.Common.{◌≤◌}
use Rattle.agent_history.specs.Histories.{History}
use Rattle.agent_core.specs.Agents.{StandsFor, left_in}
use Rattle.factotum_program.proofs.AskLemmas.{Asking}
use Rattle.factotum_program.proofs.asks.ask_all.Given as goal

abbrev pub invariant-loop : goal.invariant-loop
invariant-loop g l = record {
  asking : (H : History) → StandsFor H l.fn.agent → Asking H (g.D.Dialer.told l.fn.dial) (g.D.Dialer.told l.dial) l.agent;
  later : g.D.Dialer.faults l.fn.dial ≤ g.D.Dialer.faults l.dial;
}

abbrev pub decreases-loop : goal.decreases-loop
decreases-loop g l = left_in l.agent.state
