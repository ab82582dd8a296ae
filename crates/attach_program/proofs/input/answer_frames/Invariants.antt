use Rattle.std.proofs.Common.{◌≡◌, ◌≤◌, List, ℕ, length}
use Rattle.agent_history.specs.Histories.{History}
use Rattle.attach_program.specs.Runs.{Run, Sight, sight}
use Rattle.attach_program.specs.Steps.{Handed, taken_by}
use Rattle.attach_program.proofs.input.answer_frames.Given as goal

abbrev pub invariant-loop-frame : goal.invariant-loop-frame
invariant-loop-frame g l = record {
  handed : (keys : History) (origin : Sight) (stream : List ℕ) (some : Run) → Handed keys origin (sight (g.G.Words.to_come l.fn.rand) (g.W.Sink.holds l.fn.output) (g.L.Log.noted l.fn.log)) stream some l.fn.framer l.fn.session
      → (all : Run) × Handed keys origin (sight (g.G.Words.to_come l.rand) (g.W.Sink.holds l.output) (g.L.Log.noted l.log)) stream all l.framer l.session;
  fed : taken_by l.framer ≡ taken_by l.fn.framer;
  later : g.W.Sink.faults l.fn.output ≤ g.W.Sink.faults l.output;
  words : g.G.Words.faults l.fn.rand ≤ g.G.Words.faults l.rand;
}

abbrev pub decreases-loop-frame : goal.decreases-loop-frame
decreases-loop-frame g l = length l.framer.held
