-- Sealing: how Plan 9's authentication protocols encipher a text of eight bytes or more in place, in
-- blocks that overlap by one byte (Plan 9's encrypt(2)).
use Rattle.std.specs.Prelude.{ℕ, ◌+◌, ◌-◌, ◌*◌, ◌/◌, ◌%◌, ◌==◌, List, [], ◌∷◌, ◌++◌, length, take, drop, map, fold, reverse, if◌then◌else◌}
use Rattle.std.specs.List.{range_with_len}
use Rattle.des_block.specs.Schedule.{enciphered, deciphered}
use Rattle.sealing.specs.Keys.{expanded}

-- where the blocks of a text of n bytes begin, in the order of sealing: at 0, 7, 14 and so on as long as
-- eight bytes are left there, and then, where these don't reach the end, eight bytes before it
unfoldable pub block_starts : ℕ → List ℕ
block_starts n =
    map (λ i. 7 * i) (range_with_len 0 ((n - 1) / 7))
    ++ (if (n - 1) % 7 == 0 then [] else (n - 8) ∷ [])

-- the text with the eight bytes at a place changed
unfoldable pub changed_at : (List ℕ → List ℕ) → List ℕ → ℕ → List ℕ
changed_at change text at = take at text ++ change (take 8 (drop at text)) ++ drop (at + 8) text

-- the text sealed under a key of seven bytes: each block enciphered in place, one after the other
unfoldable pub sealed : List ℕ → List ℕ → List ℕ
sealed key text = fold (changed_at (enciphered (expanded key))) text (block_starts (length text))

-- the text opened under a key of seven bytes: each block deciphered in place, the last one first
unfoldable pub opened : List ℕ → List ℕ → List ℕ
opened key text = fold (changed_at (deciphered (expanded key))) text (reverse (block_starts (length text)))
