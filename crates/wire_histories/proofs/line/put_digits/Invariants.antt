use Rattle.std.proofs.Common.{◌≡◌, [], ◌∷◌, ◌++◌, take}
use Rattle.hex.specs.Hex.{encode_lower}
use Rattle.wire_histories.proofs.line.put_digits.Given as goal

-- the blank and the digits so far
abbrev pub invariant-loop-byte : goal.invariant-loop-byte
invariant-loop-byte l = l.out ≡ (l.fn.out ++ 32 ∷ []) ++ encode_lower (take l.byte-index l.bytes)
