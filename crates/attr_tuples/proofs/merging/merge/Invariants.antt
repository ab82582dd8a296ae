use Rattle.std.proofs.Common.{◌≡◌, ◌++◌, take}
use Rattle.std.specs.List.{filter}
use Rattle.attr_tuples.specs.Merging.{is_new}
use Rattle.attr_tuples.proofs.merging.merge.Given as goal

-- the first tuple, and what the attributes so far add to it
abbrev pub invariant-loop-attr : goal.invariant-loop-attr
invariant-loop-attr l = l.list.items ≡ l.fn.a ++ filter (is_new l.fn.a) (take l.attr-index l.attr-items)
