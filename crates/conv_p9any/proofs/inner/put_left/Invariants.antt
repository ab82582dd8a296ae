use Rattle.std.proofs.Common.{◌≡◌, ◌+◌, ◌≤◌, ◌++◌, drop, length}
use Rattle.conv_p9any.specs.Inner.{left_part}
use Rattle.conv_p9any.proofs.inner.put_left.Given as goal

-- what is left is put behind what stands, and there is room for it
abbrev pub invariant-loop-attr : goal.invariant-loop-attr
invariant-loop-attr l =
    (l.template ++ left_part (drop l.attr-index l.attrs) ≡ l.fn.template ++ left_part l.attrs)
    × (length l.template + length (left_part (drop l.attr-index l.attrs)) ≤ 36)
