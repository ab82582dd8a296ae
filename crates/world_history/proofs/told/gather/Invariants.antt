use Rattle.std.proofs.Common.{◌≡◌, length}
use Rattle.world_history.specs.Told.{ends_tables, gathered_behind, nothing, told}
use Rattle.world_history.proofs.told.gather.Given as goal

-- what was gathered, and what the lines that are left tell, is all that is told
abbrev pub invariant-loop-line : goal.invariant-loop-line
invariant-loop-line l = gathered_behind l.gathering (told ends_tables l.lines) ≡ gathered_behind nothing (told ends_tables l.fn.lines)

abbrev pub decreases-loop-line : goal.decreases-loop-line
decreases-loop-line l = length l.lines
