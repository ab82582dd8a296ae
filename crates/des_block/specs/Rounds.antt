-- The enciphering of a block of 64 bits under a list of round keys (FIPS 46-3, "Enciphering",
-- "Deciphering" and "The cipher function f").
use Rattle.std.specs.Prelude.{ℕ, ◌+◌, ◌*◌, Bool, List, [], ◌∷◌, ◌++◌, take, drop, reverse, slice_index}
use Rattle.des_block.specs.Bits.{number_of, binary, bit_numbered, permuted, xored}
use Rattle.des_block.specs.Tables.{IP, IP_inverse, E, P, selections}

-- what a selection function makes of six bits: the first and the last number the row, the four between
-- them the column, and the number that stands there is written in four bits
unfoldable pub selected : List ℕ → List Bool → List Bool
selected table six =
    let row = number_of (bit_numbered six 1 ∷ bit_numbered six 6 ∷ []) in
    let column = number_of (bit_numbered six 2 ∷ bit_numbered six 3 ∷ bit_numbered six 4 ∷ bit_numbered six 5 ∷ []) in
    binary 4 (slice_index table (16 * row + column))

-- each selection function makes four bits of the next six
unfoldable pub all_selected : List (List ℕ) → List Bool → List Bool
all_selected [] bits = []
all_selected (table ∷ tables) bits = selected table (take 6 bits) ++ all_selected tables (drop 6 bits)

-- the cipher function f of a half block of 32 bits and a round key of 48
unfoldable pub cipher_function : List Bool → List Bool → List Bool
cipher_function right key = permuted P (all_selected selections (xored (permuted E right) key))

-- the rounds, one for each round key: the new left half is the right one, and the new right half is the
-- left one with f of the right half and the key added to it
unfoldable pub after_rounds : List (List Bool) → List Bool → List Bool → List Bool × List Bool
after_rounds [] left right = (left, right)
after_rounds (key ∷ keys) left right = after_rounds keys right (xored left (cipher_function right key))

-- the last right half, followed by the last left half
abbrev pub swapped_halves : List Bool × List Bool → List Bool
swapped_halves halves = halves.1 ++ halves.0

-- the enciphering: the initial permutation, the rounds on the two halves, the halves swapped, the
-- inverse initial permutation
unfoldable pub encrypt_bits : List (List Bool) → List Bool → List Bool
encrypt_bits keys block =
    let input = permuted IP block in
    permuted IP_inverse (swapped_halves (after_rounds keys (take 32 input) (drop 32 input)))

-- the deciphering: the same with the round keys in reverse order
unfoldable pub decrypt_bits : List (List Bool) → List Bool → List Bool
decrypt_bits keys block = encrypt_bits (reverse keys) block
