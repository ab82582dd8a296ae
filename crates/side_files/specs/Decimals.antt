-- Numbers of 64 bits in decimal digits; zeros in front count for nothing.
use Rattle.std.specs.Prelude.{ℕ, ◌+◌, ◌-◌, ◌*◌, ◌^◌, List, [], ◌∷◌, Bool, ◌&&◌, nat_lt, nat_le, length, Option, Some, None, if◌then◌else◌}
use Rattle.std.specs.List.{list_all}

-- a decimal digit
abbrev pub is_digit : ℕ → Bool
is_digit b = nat_le 48 b && nat_le b 57

-- the number that digits behind a number make
abbrev pub behind : ℕ → List ℕ → ℕ
behind n [] = n
behind n (b ∷ digits) = behind (10 * n + (b - 48)) digits

-- the number behind a number, where a text is digits and the number is below 2^64
abbrev pub number_behind : ℕ → List ℕ → Option ℕ
number_behind n text = if list_all is_digit text && nat_lt (behind n text) (2 ^ 64) then Some (behind n text) else None

-- the number that a text is, if it is one below 2^64
unfoldable pub number_of : List ℕ → Option ℕ
number_of text = if nat_lt 0 (length text) then number_behind 0 text else None
