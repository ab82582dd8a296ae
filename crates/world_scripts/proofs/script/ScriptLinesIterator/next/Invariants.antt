use Rattle.std.proofs.Common.{◌≡◌, ◌+◌, ◌<◌, ◌^◌}
use Rattle.attr_tuples.specs.Cutting.{lines_left, turns_left}
use Rattle.world_scripts.specs.Scripts.{numbered}
use Rattle.world_scripts.proofs.script.ScriptLinesIterator.next.Given as goal

-- the lines that are left are those that were, since only skipped ones are behind
abbrev pub invariant-loop-self : goal.invariant-loop-self
invariant-loop-self l = (numbered l.self-inside.next (lines_left l.self-inside.left) ≡ numbered l.initial.self-inside.next (lines_left l.initial.self-inside.left)) × (l.self-inside.next + turns_left l.self-inside.left < 2 ^ 64)

abbrev pub decreases-loop-self : goal.decreases-loop-self
decreases-loop-self l = turns_left l.self-inside.left
