use Rattle.std.proofs.Common.{◌-◌, ◌≤◌, List, ℕ, Option}
use Rattle.agent_history.specs.Histories.{History}
use Rattle.attach_program.specs.Runs.{Sight, sight}
use Rattle.attach_program.specs.Serving.{most_input}
use Rattle.attach_program.specs.Steps.{IsReady, Piped, taken_by}
use Rattle.attach_program.proofs.input.answer_pieces.Given as goal

abbrev pub invariant-loop : goal.invariant-loop
invariant-loop g l = record {
  piped : (keys : History) (first : Option (List ℕ)) (origin : Sight) → Piped keys first (g.R.Source.left l.fn.input) origin (sight (g.G.Words.to_come l.fn.rand) (g.W.Sink.holds l.fn.output) (g.L.Log.noted l.fn.log)) l.fn.framer l.fn.session
      → Piped keys first (g.R.Source.left l.input) origin (sight (g.G.Words.to_come l.rand) (g.W.Sink.holds l.output) (g.L.Log.noted l.log)) l.framer l.session;
  ready : IsReady l.framer;
  reads : g.R.Source.faults l.fn.input ≤ g.R.Source.faults l.input;
  writes : g.W.Sink.faults l.fn.output ≤ g.W.Sink.faults l.output;
  words : g.G.Words.faults l.fn.rand ≤ g.G.Words.faults l.rand;
}

abbrev pub decreases-loop : goal.decreases-loop
decreases-loop g l = most_input - taken_by l.framer
