-- Numbers in decimal digits, with blanks before or behind them, and the length that one tells. After authsrv(6) of the
-- Plan 9 manual; the most bytes that a challenge may have are this project's.
use Rattle.std.specs.Prelude.{◌≡◌, ℕ, ◌+◌, ◌-◌, ◌*◌, ◌<◌, ◌≤◌, ◌↔◌, List, [], ◌∷◌, ◌++◌, true, length, replicate}
use Rattle.std.specs.List.{list_all}
use Rattle.sockets.specs.Endings.{is_digit}
use Rattle.sockets.specs.declared.ending.TheConstants.{MOST_CHALLENGE}

-- the number that digits behind a number make
abbrev pub behind : ℕ → List ℕ → ℕ
behind n [] = n
behind n (b ∷ digits) = behind (10 * n + (b - 48)) digits

-- These bytes are blanks, decimal digits of this number, at least one, and blanks.
pub record SpellsNumber (field : List ℕ) (n : ℕ) : Type 0 where
  pub front : ℕ
  pub digits : List ℕ
  pub back : ℕ
  pub parts : field ≡ replicate front 32 ++ (digits ++ replicate back 32)
  pub only : list_all is_digit digits ≡ true
  pub some : 0 < length digits
  pub value : behind 0 digits ≡ n

-- A length is that of the number from 1 to the most that a field spells; of no other field it is one of these.
abbrev pub TellsLength : List ℕ → ℕ → Type 0
TellsLength field told = (n : ℕ) → 0 < n → n ≤ MOST_CHALLENGE → SpellsNumber field n ↔ (told ≡ n)
