use Rattle.std.proofs.Common.{◌≡◌, true, ◌+◌, ◌≤◌, length}
use Rattle.key_lists.specs.CtlLines.{lines_of}
use Rattle.attr_tuples.specs.Cutting.{bytes_left, lines_left, turns_left}
use Rattle.key_ring.specs.Faults.{has_no_tuple}
use Rattle.key_ring.specs.WriteSteps.{SayTheSame, kept, unread}
use Rattle.key_ring.proofs.write.read_lines.Given as goal

-- what was read and the lines left say what all lines do, and the first line that can't be read is the same
abbrev pub invariant-loop-left : goal.invariant-loop-left
invariant-loop-left l = record {
  said : SayTheSame l.fn.lines l.lines (lines_of l.content) (kept (lines_left l.left));
  fault : unread (kept (lines_left l.left)) ≡ unread (lines_of l.content);
  few : length l.lines.edits + bytes_left l.left ≤ length l.fn.lines.edits + length l.content;
  free : has_no_tuple (lines_of l.content) ≡ true → (has_no_tuple (kept (lines_left l.left)) ≡ true) × (l.lines.edits ≡ l.fn.lines.edits);
}

abbrev pub decreases-loop-left : goal.decreases-loop-left
decreases-loop-left l = turns_left l.left
