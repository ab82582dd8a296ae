-- the steps so far and those of the replies that are left are those of all replies
use Rattle.std.proofs.Common.{◌≡◌, ◌++◌, drop}
use Rattle.agent_turns.specs.Frames.{all_frame_steps}
use Rattle.agent_turns.proofs.replies.put_frames.Given as goal

abbrev pub invariant-loop-frame : goal.invariant-loop-frame
invariant-loop-frame l = l.steps.items ++ all_frame_steps l.at l.conv l.broke (drop l.frame-index l.frames) ≡ l.fn.steps.items ++ all_frame_steps l.number l.conv l.broke l.frames
