-- What the rows of the code's tables are to hold, so that a look-up in each of them permutes. Of the code's tables
-- alone.
use Rattle.std.specs.Prelude.{ℕ, ◌+◌, ◌-◌, ◌*◌, ◌==◌, Bool, true, false, List, [], ◌∷◌, ◌++◌, ◌&&◌, length, replicate}
use Rattle.des_block.specs.Bits.{binary, number_of, permuted}
use Rattle.des_block.specs.Tables.{P}
use Rattle.des_block.specs.Rounds.{selected}

-- so many bits, all zero
abbrev pub zeros : ℕ → List Bool
zeros n = replicate n false

-- bits with so many zeros before and behind them
abbrev pub placed : ℕ → List Bool → ℕ → List Bool
placed before bits behind = zeros before ++ (bits ++ zeros behind)

-- each entry, from a number on, spells what the table makes of four bits that spell the number, in their place
abbrev pub is_row : List ℕ → ℕ → ℕ → ℕ → List ℕ → Bool
is_row table before behind n [] = n == 16
is_row table before behind n (entry ∷ entries) =
    (entry == number_of (permuted table (placed before (binary 4 n) behind)))
    && is_row table before behind (n + 1) entries

-- a row for each four bits of the input
abbrev pub are_rows : List ℕ → ℕ → List (List ℕ) → Bool
are_rows table before [] = true
are_rows table before (row ∷ rows) = is_row table before (4 * length rows) 0 row && are_rows table (before + 4) rows

-- what a selection function makes of six bits, in its place among 32 bits, permuted by P
abbrev pub combined_bits : ℕ → List ℕ → List Bool → List Bool
combined_bits number table six = permuted P (placed (4 * number) (selected table six) (28 - 4 * number))

-- each entry, from a number on, spells what comes so of six bits that spell the number
abbrev pub is_combined : ℕ → List ℕ → ℕ → List ℕ → Bool
is_combined number table n [] = n == 64
is_combined number table n (entry ∷ entries) =
    (entry == number_of (combined_bits number table (binary 6 n))) && is_combined number table (n + 1) entries

-- a row for each selection function
abbrev pub are_combined : ℕ → List (List ℕ) → List (List ℕ) → Bool
are_combined number [] [] = true
are_combined number (table ∷ tables) (row ∷ rows) =
    is_combined number table 0 row && are_combined (number + 1) tables rows
are_combined number tables rows = false
