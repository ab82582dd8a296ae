use Rattle.std.proofs.Common.{length}
use Rattle.trace_labels.proofs.ReadLaws.{HasLines}
use Rattle.trace_labels.proofs.read.read_lines.Given as goal

-- the lines so far were read of what stands in front
abbrev pub invariant-loop-left : goal.invariant-loop-left
invariant-loop-left l = HasLines l.text l.left l.number l.lines

abbrev pub decreases-loop-left : goal.decreases-loop-left
decreases-loop-left l = length l.left
