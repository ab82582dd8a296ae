-- Bytes as lists of bits, and what the cipher does with such lists, after FIPS 46-3. Bits are numbered
-- from 1, and bit 1 is the high bit of the first byte.
use Rattle.std.specs.Prelude.{◌≡◌, ℕ, zero, suc, ◌+◌, ◌-◌, ◌*◌, ◌/◌, ◌%◌, ◌^◌, ◌<◌, ◌==◌, Bool, false, List, [], ◌∷◌, length, take, drop, map, slice_index_or, All}
use Rattle.std.specs.Bool.{xor}
use Rattle.std.specs.Int.{from_bool}
use Rattle.std.specs.List.{flat_map}

-- every number is a byte
abbrev pub IsBytes : List ℕ → Type 0
IsBytes numbers = All (λ n. n < 256) numbers

-- eight bytes
pub record IsBlock (block : List ℕ) : Type 0 where
  pub whole : length block ≡ 8
  pub bytes : IsBytes block

-- the lowest `width` bits of a number, the highest first
abbrev pub binary : ℕ → ℕ → List Bool
binary zero n = []
binary (suc width) n = (n / 2 ^ width % 2 == 1) ∷ binary width n

-- the number that bits spell behind the digits of n, the highest first
abbrev pub number_behind : ℕ → List Bool → ℕ
number_behind n [] = n
number_behind n (bit ∷ bits) = number_behind (2 * n + from_bool bit) bits

-- the number that bits spell, the highest first
abbrev pub number_of : List Bool → ℕ
number_of bits = number_behind 0 bits

-- the eight bits of each byte, in order
unfoldable pub bits_of : List ℕ → List Bool
bits_of bytes = flat_map (binary 8) bytes

-- the first `count` bytes that bits spell, eight bits each
unfoldable pub bytes_of : ℕ → List Bool → List ℕ
bytes_of zero bits = []
bytes_of (suc count) bits = number_of (take 8 bits) ∷ bytes_of count (drop 8 bits)

-- the bit of this number, counted from 1
abbrev pub bit_numbered : List Bool → ℕ → Bool
bit_numbered bits k = slice_index_or bits (k - 1) false

-- the bits that the entries of a table number, in the table's order
unfoldable pub permuted : List ℕ → List Bool → List Bool
permuted table bits = map (bit_numbered bits) table

-- the sum modulo 2, bit by bit
unfoldable pub xored : List Bool → List Bool → List Bool
xored (x ∷ xs) (y ∷ ys) = xor x y ∷ xored xs ys
xored xs ys = []
