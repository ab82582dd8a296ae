-- the lines so far were carried out, and all of their steps recorded and written
use Rattle.std.proofs.Common.{◌≡◌, List, length}
use Rattle.world_history.specs.Acts.{Act}
use Rattle.world_history.specs.NotingFronts.{NotesFront}
use Rattle.world_run.specs.Standing.{Stands}
use Rattle.world_run.proofs.PlayingLemmas.{Going}
use Rattle.world_run.proofs.NotedRuns.{NotesGoing}
use Rattle.world_run.proofs.run.Run.play_all.Given as goal

abbrev pub invariant-loop-line : goal.invariant-loop-line
invariant-loop-line g l = record {
  going : (first : List Act) → Stands l.fn.lines first l.fn.self → Going l.fn.lines l.lines first l.fn.self l.self (g.W.Sink.holds l.fn.sink) (g.W.Sink.holds l.sink);
  noted : (first : List Act) → Stands l.fn.lines first l.fn.self → NotesFront l.fn.lines first l.fn.setting → NotesGoing l.fn.lines l.lines first l.self l.setting;
  steady : g.W.Sink.faults l.sink ≡ g.W.Sink.faults l.fn.sink;
}

abbrev pub decreases-loop-line : goal.decreases-loop-line
decreases-loop-line g l = length l.lines
