use Rattle.std.proofs.Common.{◌≡◌, [], ◌∷◌, ◌++◌, take}
use Rattle.std.specs.List.{flat_map}
use Rattle.attr_tuples.specs.Words.{quoted_byte}
use Rattle.attr_tuples.proofs.value.append_quoted.Given as goal

-- the opening quote and the bytes so far
abbrev pub invariant-loop-byte : goal.invariant-loop-byte
invariant-loop-byte l = l.out ≡ (l.fn.out ++ 39 ∷ []) ++ flat_map quoted_byte (take l.byte-index l.text)
