use Rattle.std.proofs.Common.{◌≡◌, ◌+◌, ◌≤◌, List, ℕ, length}
use Rattle.factotum_program.specs.Pipe.{Turn}
use Rattle.factotum_program.specs.Sights.{Sight, sight}
use Rattle.factotum_program.specs.Sessions.{Handed}
use Rattle.factotum_program.proofs.frames.gather_frames.Given as goal

abbrev pub invariant-loop-frame : goal.invariant-loop-frame
invariant-loop-frame g l = record {
  handed : (origin : Sight) (stream : List ℕ) (some : List Turn) → Handed origin (sight (g.G.Words.to_come l.fn.rand) (g.D.Dialer.told l.fn.dial) (g.W.Sink.holds l.fn.output)) l.fn.replies stream some l.fn.framer l.fn.agent
      → (all : List Turn) × Handed origin (sight (g.G.Words.to_come l.rand) (g.D.Dialer.told l.dial) (g.W.Sink.holds l.output)) l.replies stream all l.framer l.agent;
  fed : l.framer.before + length l.framer.held ≡ l.fn.framer.before + length l.fn.framer.held;
  later : g.W.Sink.faults l.fn.output ≤ g.W.Sink.faults l.output;
  dials : g.D.Dialer.faults l.fn.dial ≤ g.D.Dialer.faults l.dial;
  words : g.G.Words.faults l.fn.rand ≤ g.G.Words.faults l.rand;
}

abbrev pub decreases-loop-frame : goal.decreases-loop-frame
decreases-loop-frame g l = length l.framer.held
