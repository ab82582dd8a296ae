use Rattle.std.proofs.Common.{◌≡◌, [], take}
use Rattle.attr_tuples.specs.Matching.{texts_of}
use Rattle.attr_tuples.proofs.compare.value_of.Given as goal

-- the attributes so far give the name no text
abbrev pub invariant-loop-attr : goal.invariant-loop-attr
invariant-loop-attr l = texts_of l.name (take l.attr-index l.attr-items) ≡ []
