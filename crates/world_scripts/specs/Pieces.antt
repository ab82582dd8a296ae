-- Bytes as a script writes them: pieces joined by `+`. A piece is `x` and hexadecimal digits in either case, `m` and
-- the number of a message, or `m` and the number of a message, the place of a byte of it and how many bytes from
-- there on. Numbers are decimal, of any size, and may have zeros in front. A piece has its digits as they are written.
use Rattle.std.specs.Prelude.{ℕ, ◌+◌, ◌-◌, ◌*◌, ◌%◌, List, [], ◌∷◌, ◌++◌, Bool, ◌&&◌, ◌||◌, ◌==◌, nat_le, nat_lt, length, map}
use Rattle.std.specs.List.{list_all, join_with_byte}

pub data Piece : Type 0 where
  -- the bytes that digits spell
  Spelled : (digits : List ℕ) → Piece
  -- the message of a number, whole
  Whole : (message : List ℕ) → Piece
  -- so many bytes of the message of a number, from a place on
  Part : (message start len : List ℕ) → Piece

-- the digits of a number behind a `:`
abbrev pub field : List ℕ → List ℕ
field number = 58 ∷ number

-- a piece as it is written
abbrev pub piece_text : Piece → List ℕ
piece_text (Spelled digits) = 120 ∷ digits
piece_text (Whole message) = 109 ∷ message
piece_text (Part message start len) = 109 ∷ (message ++ (field start ++ field len))

abbrev pub pieces_text : List Piece → List ℕ
pieces_text pieces = join_with_byte 43 (map piece_text pieces)

-- ---- which pieces can be written

abbrev pub is_digit : ℕ → Bool
is_digit b = nat_le 48 b && nat_le b 57 || (nat_le 65 b && nat_le b 70 || nat_le 97 b && nat_le b 102)

-- pairs of hexadecimal digits, maybe none
abbrev pub are_pairs : List ℕ → Bool
are_pairs digits = (length digits % 2 == 0) && list_all is_digit digits

abbrev pub is_decimal_digit : ℕ → Bool
is_decimal_digit b = nat_le 48 b && nat_le b 57

-- a number: decimal digits, at least one
abbrev pub is_number : List ℕ → Bool
is_number digits = nat_lt 0 (length digits) && list_all is_decimal_digit digits

abbrev pub is_piece : Piece → Bool
is_piece (Spelled digits) = are_pairs digits
is_piece (Whole message) = is_number message
is_piece (Part message start len) = is_number message && (is_number start && is_number len)

-- pieces, at least one
abbrev pub are_pieces : List Piece → Bool
are_pieces pieces = nat_lt 0 (length pieces) && list_all is_piece pieces

-- ---- which number digits are

-- the number that digits behind a number make
abbrev pub behind : ℕ → List ℕ → ℕ
behind n [] = n
behind n (b ∷ digits) = behind (10 * n + (b - 48)) digits

abbrev pub number_in : List ℕ → ℕ
number_in digits = behind 0 digits
