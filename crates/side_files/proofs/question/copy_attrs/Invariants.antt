use Rattle.std.proofs.Common.{◌≡◌, take}
use Rattle.side_files.proofs.question.copy_attrs.Given as goal

abbrev pub invariant-loop-attr : goal.invariant-loop-attr
invariant-loop-attr l = l.tuple ≡ take l.attr-index l.attrs
