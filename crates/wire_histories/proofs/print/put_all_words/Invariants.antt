use Rattle.std.proofs.Common.{◌≡◌, ◌++◌, take}
use Rattle.std.specs.List.{flat_map}
use Rattle.hex.specs.Hex.{encode_lower}
use Rattle.wire_histories.specs.Lines.{word}
use Rattle.wire_histories.proofs.print.put_all_words.Given as goal

-- the words so far
abbrev pub invariant-loop-random : goal.invariant-loop-random
invariant-loop-random l = l.out ≡ l.fn.out ++ flat_map (λ w. word (encode_lower w)) (take l.random-index l.words)
