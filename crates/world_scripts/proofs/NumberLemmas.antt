-- Digits read from the left.
use Rattle.std.proofs.Common.{◌≡◌, ℕ, rules, suc, zero, ◌+◌, ◌-◌, ◌*◌, ◌^◌, ◌<◌, ◌≤◌, List, [], ◌∷◌, ◌++◌, true, length, drop, Option, Some, None, refl, ap, arith}
use Rattle.std.specs.Prelude.{replicate}
use Rattle.std.specs.List.{list_all}
use Rattle.std.specs.Option.{IfNone, SomeIff}
use Rattle.std.specs.Fmt.{decimal}
use Rattle.std.proofs.lemmas.Bool.{and_from, lt-ltb}
use Rattle.std.proofs.lemmas.Fmt.{decimal_nonempty, digits_decimal, digits_value-decimal}
use Rattle.std.proofs.lemmas.Str.Parse.{IsNumeralModel, numerals_by_fold}
use Rattle.std.proofs.lemmas.List.{drop_all}
use Rattle.world_scripts.specs.Pieces.{behind, is_decimal_digit, is_number, number_in}

grows : (n : ℕ) (digits : List ℕ) → n ≤ behind n digits
grows n [] = omega arith
grows n (b ∷ digits) = omega (arith, grows (10 * n + (b - 48)) digits)

over : (n b : ℕ) (digits : List ℕ) → 2 ^ 64 ≤ 10 * n + (b - 48) → 2 ^ 64 ≤ behind n (b ∷ digits)
over n b digits h = omega (arith, h, grows (10 * n + (b - 48)) digits)

pub at_end : (n i : ℕ) (text : List ℕ) → length text ≤ i → behind n (drop i text) ≡ n
at_end n i text e = ap (behind n) (drop_all i text e)

-- the two ways in which a digit may be too much
pub none_by_ten : (r : Option ℕ) (n b : ℕ) → (n * 10 < 2 ^ 64 → ⊥) → IfNone r ((digits : List ℕ) → 2 ^ 64 ≤ behind n (b ∷ digits))
none_by_ten (Some m) n b h = tt
none_by_ten None n b h = λ digits. over n b digits (omega (arith, h))

pub none_by_digit : (r : Option ℕ) (n b m d : ℕ) → m ≡ n * 10 → d ≡ b - 48 → SomeIff r (m + d < 2 ^ 64) (m + d) → IfNone r ((digits : List ℕ) → 2 ^ 64 ≤ behind n (b ∷ digits))
none_by_digit (Some x) n b m d ten less h = tt
none_by_digit None n b m d ten less h = λ digits. over n b digits (omega (arith, h, ten, less))

-- ---- a number and its digits

digits_are : IsNumeralModel (λ ds. list_all is_decimal_digit ds ≡ true) (behind 0)
digits_are = numerals_by_fold _ (search rules) behind (search rules)

pub decimal_digits : (n : ℕ) → n < 2 ^ 64 → list_all is_decimal_digit (decimal n) ≡ true
decimal_digits n h = digits_decimal digits_are n h

pub decimal_number : (n : ℕ) → n < 2 ^ 64 → is_number (decimal n) ≡ true
decimal_number n h = and_from _ (list_all is_decimal_digit (decimal n)) (lt-ltb 0 (length (decimal n)) (decimal_nonempty n h)) (decimal_digits n h)

pub number_again : (n : ℕ) → n < 2 ^ 64 → (is_number (decimal n) ≡ true) × (number_in (decimal n) ≡ n)
number_again n h = (decimal_number n h, digits_value-decimal digits_are n h)

pub zeros_in_front : (zeros : ℕ) (digits : List ℕ) → number_in (replicate zeros 48 ++ digits) ≡ number_in digits
zeros_in_front zero digits = refl
zeros_in_front (suc zeros) digits = zeros_in_front zeros digits
