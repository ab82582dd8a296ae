use Rattle.std.proofs.Common.{◌≡◌, ◌∷◌, take}
use Rattle.std.specs.List.{flat_map}
use Rattle.attr_tuples.specs.Words.{quoted_byte}
use Rattle.talks.specs.Sizes.{behind}
use Rattle.talks.proofs.size.spend_quoted.Given as goal

-- the opening quote and the bytes so far
abbrev pub invariant-loop-byte : goal.invariant-loop-byte
invariant-loop-byte l = l.left ≡ behind l.fn.budget (39 ∷ flat_map quoted_byte (take l.byte-index l.text))
