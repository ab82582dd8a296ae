-- the steps so far and those of the replies that are left are those of all replies
use Rattle.std.proofs.Common.{◌≡◌, ◌++◌, drop}
use Rattle.agent_turns.specs.Frames.{told_frames}
use Rattle.agent_turns.proofs.replies.put_all_told.Given as goal

abbrev pub invariant-loop-frame : goal.invariant-loop-frame
invariant-loop-frame l = l.steps.items ++ told_frames l.node (drop l.frame-index l.frames) ≡ l.fn.steps.items ++ told_frames l.node l.frames
