-- The length in front of a challenge: a number in decimal digits, with blanks before or behind them. After authsrv(6)
-- of the Plan 9 manual.
use Rattle.std.specs.Prelude.{ℕ, ◌+◌, ◌-◌, ◌*◌, List, [], ◌∷◌, Bool, ◌&&◌, ◌==◌, nat_le, nat_lt, length, reverse, if◌then◌else◌}
use Rattle.std.specs.List.{list_all}

-- a text without the blanks in front of it
abbrev pub behind_blanks : List ℕ → List ℕ
behind_blanks [] = []
behind_blanks (b ∷ text) = if b == 32 then behind_blanks text else b ∷ text

-- and without those at either end
abbrev pub between_blanks : List ℕ → List ℕ
between_blanks text = reverse (behind_blanks (reverse (behind_blanks text)))

-- a decimal digit
abbrev pub is_digit : ℕ → Bool
is_digit b = nat_le 48 b && nat_le b 57

-- some digits, and nothing else
abbrev pub is_number : List ℕ → Bool
is_number text = nat_lt 0 (length text) && list_all is_digit text

-- the number that digits behind a number make
abbrev pub behind : ℕ → List ℕ → ℕ
behind n [] = n
behind n (b ∷ digits) = behind (10 * n + (b - 48)) digits

-- the number that a field tells, and 0 where it tells none
unfoldable pub told_length : List ℕ → ℕ
told_length field = if is_number (between_blanks field) then behind 0 (between_blanks field) else 0
