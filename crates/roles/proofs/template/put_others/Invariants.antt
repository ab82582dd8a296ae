use Rattle.std.proofs.Common.{◌≡◌, ◌+◌, ◌≤◌, ◌++◌, drop, length}
use Rattle.roles.specs.Templates.{others_part}
use Rattle.roles.proofs.template.put_others.Given as goal

-- what is left is put behind what stands, and there is room for it
abbrev pub invariant-loop-attr : goal.invariant-loop-attr
invariant-loop-attr l =
    (l.asked ++ others_part l.role (drop l.attr-index l.attrs) ≡ l.fn.asked ++ others_part l.role l.attrs)
    × (length l.asked + length (others_part l.role (drop l.attr-index l.attrs)) ≤ 36)
