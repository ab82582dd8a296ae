-- Digits, one by one.
use Rattle.std.proofs.Common.{◌≡◌, ℕ, ◌<◌, Bool, true, false, not, ◌&&◌, ◌||◌, eqb, leb, ltb, Option, Some, None, refl, cond, arith, inl, inr}
use Rattle.std.specs.Prelude.{is_some, unwrap_or, slice_index}
use Rattle.std.proofs.lemmas.Bool.{agree_below_at, and_parts, or_cases, leb-true, ltb-true, eqb-true}
use Rattle.hex.specs.Hex.{is_hex_digit, hex_digit_value, lower_digits}
use Rattle.world_scripts.specs.Reading.{is_lower_digit}

some_of_three : (p q r : Bool) (x y z : ℕ) → (r || q) ≡ true → is_some (cond p (Some x) (cond q (Some y) (cond r (Some z) None))) ≡ true
some_of_three true q r x y z h = refl
some_of_three false true r x y z h = refl
some_of_three false false true x y z h = refl
some_of_three false false false x y z h = h

pub lower_is_digit : (b : ℕ) → is_lower_digit b ≡ true → is_hex_digit b ≡ true
lower_is_digit b h = some_of_three (leb 65 b && leb b 70) (leb 97 b && leb b 102) (leb 48 b && leb b 57) _ _ _ h

-- ---- a digit in lower case and its value

-- the value of a digit, and a number over all values where it is none
abbrev pub value : ℕ → ℕ
value c = unwrap_or (hex_digit_value c) 99

-- the digit stands in the table at its value
abbrev is_found : ℕ → Bool
is_found c = not (is_lower_digit c) || (ltb (value c) 16 && eqb (slice_index lower_digits (value c)) c)

below : (c : ℕ) → is_lower_digit c ≡ true → c < 256
below c h = elim (or_cases (leb 48 c && leb c 57) (leb 97 c && leb c 102) h) [
  | inl t ↦ (let le = leb-true c 57 (and_parts (leb 48 c) (leb c 57) t).1 in omega (arith, le))
  | inr t ↦ (let le = leb-true c 102 (and_parts (leb 97 c) (leb c 102) t).1 in omega (arith, le))
]

some_back : (o : Option ℕ) → unwrap_or o 99 < 16 → o ≡ Some (unwrap_or o 99)
some_back (Some v) h = refl
some_back None h = absurd (omega (arith, h))

pub record HasValue (c : ℕ) : Type 0 where
  pub some : hex_digit_value c ≡ Some (value c)
  pub small : value c < 16
  pub back : slice_index lower_digits (value c) ≡ c

pub has_value : (c : ℕ) → is_lower_digit c ≡ true → HasValue c
has_value c h =
    let all : is_found c ≡ true = agree_below_at is_found (λ b. true) 256 c refl (below c h) in
    let both : (ltb (value c) 16 && eqb (slice_index lower_digits (value c)) c) ≡ true = rw h at all in
    let parts = and_parts (ltb (value c) 16) (eqb (slice_index lower_digits (value c)) c) both in
    let small = ltb-true (value c) 16 parts.0 in
    record { some = some_back (hex_digit_value c) small; small = small; back = eqb-true (slice_index lower_digits (value c)) c parts.1 }

pub digit_is_lower : (d : ℕ) → d < 16 → is_lower_digit (slice_index lower_digits d) ≡ true
digit_is_lower d h = agree_below_at (λ (k : ℕ). is_lower_digit (slice_index lower_digits k)) (λ b. true) 16 d refl h
