use Rattle.std.proofs.Common.{ℕ, ◌≤◌, List, length, Option}
use Rattle.agent_history.specs.Replies.{untaken}
use Rattle.agent_history.specs.Histories.{History, deeds}
use Rattle.agent_core.specs.Agents.{StandsFor, kept_replies}
use Rattle.factotum_program.specs.Pipe.{text_of}
use Rattle.factotum_program.specs.Gathers.{Gathers}
use Rattle.factotum_program.proofs.TakeLemmas.{Going}
use Rattle.factotum_program.proofs.frames.take_all.Given as goal

abbrev pub invariant-loop-agent : goal.invariant-loop-agent
invariant-loop-agent g l = record {
  going : (origin : Option (List ℕ)) (H : History) (n : ℕ) → StandsFor H l.fn.agent → length (untaken (deeds H) 0) ≤ n → Gathers origin (g.W.Sink.holds l.fn.output) l.fn.replies (text_of H) → Going H n l.agent origin (g.W.Sink.holds l.output) l.replies;
  later : g.W.Sink.faults l.fn.output ≤ g.W.Sink.faults l.output;
}

abbrev pub decreases-loop-agent : goal.decreases-loop-agent
decreases-loop-agent g l = kept_replies l.agent 0
