-- What is read byte by byte is the number that the field spells.
use Rattle.std.proofs.Common.{◌≡◌, ℕ, zero, suc, ◌+◌, ◌-◌, ◌*◌, ◌<◌, ◌≤◌, List, [], ◌∷◌, ◌++◌, Bool, true, false, ◌==◌, leb, length, drop, replicate, if◌then◌else◌, refl, sym, ap, subst, ◌∙◌, arith, eqb-true, ne_eqb, leb-true, le-leb}
use Rattle.std.proofs.lemmas.Bool.{and_parts}
use Rattle.std.proofs.lemmas.List.{drop_all}
use Rattle.std.specs.List.{list_all}
use Rattle.sockets.specs.declared.ending.Counted.{Counted}
use Rattle.sockets.specs.declared.ending.Counted.TheVariants.{Before, Number, Behind, Faulty}
use Rattle.sockets.specs.declared.ending.TheConstants.{MOST_CHALLENGE}
use Rattle.sockets.specs.Endings.{after_byte, after_bytes, is_digit, number_read}
use Rattle.sockets.specs.Numbers.{SpellsNumber, TellsLength, behind}

grows : (n : ℕ) (digits : List ℕ) → n ≤ behind n digits
grows n [] = omega arith
grows n (b ∷ digits) = omega (arith, grows (10 * n + (b - 48)) digits)

-- ---- what spells a number is read as it

blanks_before : (k : ℕ) (rest : List ℕ) → after_bytes Before (replicate k 32 ++ rest) ≡ after_bytes Before rest
blanks_before zero rest = refl
blanks_before (suc k) rest = blanks_before k rest

blanks_behind : (k n : ℕ) → number_read (after_bytes (Behind n) (replicate k 32)) ≡ n
blanks_behind zero n = refl
blanks_behind (suc k) n = blanks_behind k n

number_stays : (k n : ℕ) → number_read (after_bytes (Number n) (replicate k 32)) ≡ n
number_stays zero n = refl
number_stays (suc k) n = blanks_behind k n

digit_is_no_blank : (b : ℕ) → is_digit b ≡ true → (b == 32) ≡ false
digit_is_no_blank b digit =
    let low : 48 ≤ b = leb-true 48 b (and_parts (leb 48 b) (leb b 57) digit).0 in
    ne_eqb b 32 (λ e. absurd (omega (arith, low, e)))

first_digit : (b : ℕ) → is_digit b ≡ true → 10 * 0 + (b - 48) ≤ MOST_CHALLENGE → after_byte Before b ≡ Number (10 * 0 + (b - 48))
first_digit b digit small = rw (digit_is_no_blank b digit, digit, le-leb (10 * 0 + (b - 48)) MOST_CHALLENGE small) refl

next_digit : (n b : ℕ) → is_digit b ≡ true → 10 * n + (b - 48) ≤ MOST_CHALLENGE → after_byte (Number n) b ≡ Number (10 * n + (b - 48))
next_digit n b digit small = rw (digit_is_no_blank b digit, digit, le-leb (10 * n + (b - 48)) MOST_CHALLENGE small) refl

digits_read : (n : ℕ) (digits : List ℕ) (k : ℕ) → list_all is_digit digits ≡ true → behind n digits ≤ MOST_CHALLENGE → number_read (after_bytes (Number n) (digits ++ replicate k 32)) ≡ behind n digits
digits_read n [] k only small = number_stays k n
digits_read n (b ∷ digits) k only small =
    let parts = and_parts (is_digit b) (list_all is_digit digits) only in
    let one = next_digit n b parts.0 (omega (arith, grows (10 * n + (b - 48)) digits, small)) in
    ap (λ counted. number_read (after_bytes counted (digits ++ replicate k 32))) one
    ∙ digits_read (10 * n + (b - 48)) digits k parts.1 small

number_read_first : (digits : List ℕ) (k : ℕ) → list_all is_digit digits ≡ true → 0 < length digits → behind 0 digits ≤ MOST_CHALLENGE → number_read (after_bytes Before (digits ++ replicate k 32)) ≡ behind 0 digits
number_read_first [] k only some small = absurd (omega (arith, some))
number_read_first (b ∷ digits) k only some small =
    let parts = and_parts (is_digit b) (list_all is_digit digits) only in
    let one = first_digit b parts.0 (omega (arith, grows (10 * 0 + (b - 48)) digits, small)) in
    ap (λ counted. number_read (after_bytes counted (digits ++ replicate k 32))) one
    ∙ digits_read (10 * 0 + (b - 48)) digits k parts.1 small

spelled_is_read : (field : List ℕ) (n : ℕ) → n ≤ MOST_CHALLENGE → SpellsNumber field n → number_read (after_bytes Before field) ≡ n
spelled_is_read field n small s =
    ap (λ f. number_read (after_bytes Before f)) s.parts
    ∙ ap number_read (blanks_before s.front (s.digits ++ replicate s.back 32))
    ∙ number_read_first s.digits s.back s.only s.some (omega (arith, small, s.value))
    ∙ s.value

-- ---- what is read is spelled

faulty_is_none : (field : List ℕ) → number_read (after_bytes Faulty field) ≡ 0
faulty_is_none [] = refl
faulty_is_none (b ∷ field) = faulty_is_none field

record Blanks (v : ℕ) (field : List ℕ) (n : ℕ) : Type 0 where
  count : ℕ
  parts : field ≡ replicate count 32
  same : v ≡ n

record Rest (v : ℕ) (field : List ℕ) (n : ℕ) : Type 0 where
  digits : List ℕ
  back : ℕ
  parts : field ≡ digits ++ replicate back 32
  only : list_all is_digit digits ≡ true
  value : behind v digits ≡ n

one_blank : (v b : ℕ) (field : List ℕ) (n : ℕ) → b ≡ 32 → Blanks v field n → Blanks v (b ∷ field) n
one_blank v b field n blank more = record {
  count = suc more.count;
  parts = ap (λ c. c ∷ field) blank ∙ ap (λ f. 32 ∷ f) more.parts;
  same = more.same;
}

blank_step : (t : Bool) (v b : ℕ) (field : List ℕ) (n : ℕ) → (b == 32) ≡ t → 0 < n
    → (number_read (after_bytes (Behind v) field) ≡ n → Blanks v field n)
    → number_read (after_bytes (if t then Behind v else Faulty) field) ≡ n → Blanks v (b ∷ field) n
blank_step true v b field n is some later read = one_blank v b field n (eqb-true b 32 is) (later read)
blank_step false v b field n is some later read = absurd (omega (arith, faulty_is_none field, read, some))

read_blanks : (v : ℕ) (field : List ℕ) (n : ℕ) → 0 < n → number_read (after_bytes (Behind v) field) ≡ n → Blanks v field n
read_blanks v [] n some read = record { count = 0; parts = refl; same = read }
read_blanks v (b ∷ field) n some read = blank_step (b == 32) v b field n refl some (λ later. read_blanks v field n some later) read

blanks_rest : (v b : ℕ) (field : List ℕ) (n : ℕ) → Blanks v (b ∷ field) n → Rest v (b ∷ field) n
blanks_rest v b field n blanks = record { digits = []; back = blanks.count; parts = blanks.parts; only = refl; value = blanks.same }

one_more : (v b : ℕ) (field : List ℕ) (n : ℕ) → is_digit b ≡ true → Rest (10 * v + (b - 48)) field n → Rest v (b ∷ field) n
one_more v b field n digit rest = record {
  digits = b ∷ rest.digits;
  back = rest.back;
  parts = ap (λ f. b ∷ f) rest.parts;
  only = rw (digit, rest.only) refl;
  value = rest.value;
}

digit_step : (blank digit fits : Bool) (v b : ℕ) (field : List ℕ) (n : ℕ) → (b == 32) ≡ blank → is_digit b ≡ digit → 0 < n
    → (number_read (after_bytes (Number (10 * v + (b - 48))) field) ≡ n → Rest (10 * v + (b - 48)) field n)
    → number_read (after_bytes (if blank then Behind v else (if digit then (if fits then Number (10 * v + (b - 48)) else Faulty) else Faulty)) field) ≡ n → Rest v (b ∷ field) n
digit_step true digit fits v b field n blank is some later read = blanks_rest v b field n (one_blank v b field n (eqb-true b 32 blank) (read_blanks v field n some read))
digit_step false true true v b field n blank is some later read = one_more v b field n is (later read)
digit_step false true false v b field n blank is some later read = absurd (omega (arith, faulty_is_none field, read, some))
digit_step false false fits v b field n blank is some later read = absurd (omega (arith, faulty_is_none field, read, some))

read_rest : (v : ℕ) (field : List ℕ) (n : ℕ) → 0 < n → number_read (after_bytes (Number v) field) ≡ n → Rest v field n
read_rest v [] n some read = record { digits = []; back = 0; parts = refl; only = refl; value = read }
read_rest v (b ∷ field) n some read = digit_step (b == 32) (is_digit b) (leb (10 * v + (b - 48)) MOST_CHALLENGE) v b field n refl refl some (λ later. read_rest (10 * v + (b - 48)) field n some later) read

blank_first : (b : ℕ) (field : List ℕ) (n : ℕ) → b ≡ 32 → SpellsNumber field n → SpellsNumber (b ∷ field) n
blank_first b field n blank s = record {
  front = suc s.front;
  digits = s.digits;
  back = s.back;
  parts = ap (λ c. c ∷ field) blank ∙ ap (λ f. 32 ∷ f) s.parts;
  only = s.only;
  some = s.some;
  value = s.value;
}

digits_first : (b : ℕ) (field : List ℕ) (n : ℕ) → is_digit b ≡ true → Rest (10 * 0 + (b - 48)) field n → SpellsNumber (b ∷ field) n
digits_first b field n digit rest = record {
  front = 0;
  digits = b ∷ rest.digits;
  back = rest.back;
  parts = ap (λ f. b ∷ f) rest.parts;
  only = rw (digit, rest.only) refl;
  some = omega arith;
  value = rest.value;
}

first_step : (blank digit fits : Bool) (b : ℕ) (field : List ℕ) (n : ℕ) → (b == 32) ≡ blank → is_digit b ≡ digit → 0 < n
    → (number_read (after_bytes Before field) ≡ n → SpellsNumber field n)
    → number_read (after_bytes (if blank then Before else (if digit then (if fits then Number (10 * 0 + (b - 48)) else Faulty) else Faulty)) field) ≡ n → SpellsNumber (b ∷ field) n
first_step true digit fits b field n blank is some later read = blank_first b field n (eqb-true b 32 blank) (later read)
first_step false true true b field n blank is some later read = digits_first b field n is (read_rest (10 * 0 + (b - 48)) field n some read)
first_step false true false b field n blank is some later read = absurd (omega (arith, faulty_is_none field, read, some))
first_step false false fits b field n blank is some later read = absurd (omega (arith, faulty_is_none field, read, some))

read_is_spelled : (field : List ℕ) (n : ℕ) → 0 < n → number_read (after_bytes Before field) ≡ n → SpellsNumber field n
read_is_spelled [] n some read = absurd (omega (arith, read, some))
read_is_spelled (b ∷ field) n some read = first_step (b == 32) (is_digit b) (leb (10 * 0 + (b - 48)) MOST_CHALLENGE) b field n refl refl some (λ later. read_is_spelled field n some later) read

tells_length : (field : List ℕ) → TellsLength field (number_read (after_bytes Before field))
tells_length field n some small = (spelled_is_read field n small, read_is_spelled field n some)

-- What was read where no byte is left tells the length.
pub tells_at_end : (counted : Counted) (i : ℕ) (field : List ℕ) (told : ℕ) → length field ≤ i → after_bytes counted (drop i field) ≡ after_bytes Before field → told ≡ number_read counted → TellsLength field told
tells_at_end counted i field told over read is =
    let whole : counted ≡ after_bytes Before field = sym (ap (after_bytes counted) (drop_all i field over)) ∙ read in
    subst (TellsLength field) (sym (is ∙ ap number_read whole)) (tells_length field)
