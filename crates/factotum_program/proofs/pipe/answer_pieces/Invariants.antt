use Rattle.std.proofs.Common.{◌≡◌, ◌-◌, ◌≤◌, List, ℕ, Option}
use Rattle.factotum_program.specs.Commands.{most_input}
use Rattle.factotum_program.specs.Sights.{Sight, sight}
use Rattle.factotum_program.specs.Sessions.{IsReady, Piped, taken_by}
use Rattle.factotum_program.proofs.pipe.answer_pieces.Given as goal

abbrev pub invariant-loop : goal.invariant-loop
invariant-loop g l = record {
  piped : (first : Option (List ℕ)) (origin : Sight) → Piped first (g.R.Source.left l.fn.input) origin (sight (g.G.Words.to_come l.fn.rand) (g.D.Dialer.told l.fn.dial) (g.W.Sink.holds l.fn.output)) l.fn.session
      → Piped first (g.R.Source.left l.input) origin (sight (g.G.Words.to_come l.rand) (g.D.Dialer.told l.dial) (g.W.Sink.holds l.output)) l.session;
  ready : IsReady l.session;
  reads : g.R.Source.faults l.fn.input ≤ g.R.Source.faults l.input;
  writes : g.W.Sink.faults l.fn.output ≤ g.W.Sink.faults l.output;
  dials : g.D.Dialer.faults l.fn.dial ≤ g.D.Dialer.faults l.dial;
  words : g.G.Words.faults l.fn.rand ≤ g.G.Words.faults l.rand;
}

abbrev pub decreases-loop : goal.decreases-loop
decreases-loop g l = most_input - taken_by l.session
