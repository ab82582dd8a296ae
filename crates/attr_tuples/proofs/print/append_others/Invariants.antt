use Rattle.std.proofs.Common.{◌≡◌, ◌++◌, take}
use Rattle.attr_tuples.specs.Steps.{others_text}
use Rattle.attr_tuples.proofs.print.append_others.Given as goal

-- the attributes so far, each behind a blank
abbrev pub invariant-loop-attr : goal.invariant-loop-attr
invariant-loop-attr l = l.out ≡ l.fn.out ++ others_text l.secrets (take l.attr-index l.attrs)
