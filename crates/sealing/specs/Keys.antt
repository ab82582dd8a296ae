-- A key of seven bytes as DES takes it, in eight bytes with a parity bit each (des56to64 of Plan 9's
-- des(2); FIPS 46-3: bits 8, 16, .. 64 make the number of ones of their byte odd).
use Rattle.std.specs.Prelude.{ℕ, ◌+◌, ◌-◌, ◌*◌, ◌/◌, ◌%◌, ◌^◌, List, ◌∷◌, map, fold, count_ones}
use Rattle.std.specs.Int.{w64, from_be_bytes}
use Rattle.std.specs.List.{range_with_len}

-- the 56 bits of a key as one number, the first byte highest
unfoldable pub key_number : List ℕ → ℕ
key_number key = from_be_bytes w64 (0 ∷ key)

-- seven bits followed by the bit that makes the number of ones odd
abbrev pub with_parity : ℕ → ℕ
with_parity seven = 2 * seven + (1 - count_ones seven % 2)

-- the i-th group of seven bits from the high end of 56, counted from 0
abbrev pub group_of_seven : ℕ → ℕ → ℕ
group_of_seven number i = number / 2 ^ (49 - 7 * i) % 128

-- the eight groups of seven bits, each followed by its parity bit
unfoldable pub expanded : List ℕ → List ℕ
expanded key = map (λ i. with_parity (group_of_seven (key_number key) i)) (range_with_len 0 8)

-- the number that eight bytes spell without their parity bits, the first byte highest
abbrev pub number_without_parity : List ℕ → ℕ
number_without_parity bytes = fold (λ n byte. 128 * n + byte / 2) 0 bytes
