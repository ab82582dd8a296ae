-- A number that is put among ranges that stand apart: they stand apart as before, and have that number more.
use Rattle.std.proofs.Common.{◌≡◌, ℕ, zero, suc, ◌+◌, ◌-◌, ◌<◌, ◌≤◌, List, [], ◌∷◌, ◌++◌, take, drop, Bool, true, false, cond, eqb, ltb, leb, min, max, ◌||◌, Some, None, is_some, refl, sym, subst, ap, ◌∙◌, inl, inr, arith}
use Rattle.std.proofs.lemmas.Bool.{cases_eq, cases_lt, false≢true, ltb-true, ltb-false, leb-true, le-leb, eq-eqb, eqb-true, and_parts, and_from, or_cases, or_left, or_right}
use Rattle.wire_base.specs.declared.range.Range.{Range}
use Rattle.wire_base.specs.Spans.{has_number, is_within, AreApart, BeginPast, beside, ends_before, widened}
use Rattle.wire_base.proofs.PlaceLemmas.{found, past_gap}

-- ---- numbers of one range

same_answer : (a b : Bool) → (a ≡ true → b ≡ true) → (b ≡ true → a ≡ true) → a ≡ b
same_answer true b there back = sym (there refl)
same_answer false true there back = back refl
same_answer false false there back = refl

or_assoc : (a b c : Bool) → ((a || b) || c) ≡ (a || (b || c))
or_assoc true b c = refl
or_assoc false b c = refl

or_swap : (a b c : Bool) → (a || (b || c)) ≡ (b || (a || c))
or_swap true true c = refl
or_swap true false c = refl
or_swap false b c = refl

within_so : (q : ℕ) (r : Range) → r.first ≤ q → q ≤ r.last → is_within q r ≡ true
within_so q r low high = and_from (leb r.first q) (leb q r.last) (le-leb r.first q low) (le-leb q r.last high)

within_low : (q : ℕ) (r : Range) → is_within q r ≡ true → r.first ≤ q
within_low q r e = leb-true r.first q ((and_parts (leb r.first q) (leb q r.last) e).0)

within_high : (q : ℕ) (r : Range) → is_within q r ≡ true → q ≤ r.last
within_high q r e = leb-true q r.last ((and_parts (leb r.first q) (leb q r.last) e).1)

abbrev pub range : ℕ → ℕ → Range
range first last = record { first = first; last = last }

within_one : (n q : ℕ) → is_within q (range n n) ≡ eqb q n
within_one n q = same_answer (is_within q (range n n)) (eqb q n)
    (λ e.
    let low : n ≤ q = within_low q (range n n) e in
    let high : q ≤ n = within_high q (range n n) e in
    eq-eqb q n (omega (arith, low, high)))
    (λ e.
    let is : q ≡ n = eqb-true q n e in
    within_so q (range n n) (omega (arith, is)) (omega (arith, is)))

within_widened : (n : ℕ) (r : Range) (q : ℕ) → r.first ≤ r.last → r.first ≤ n + 1 → n - 1 ≤ r.last → is_within q (widened n r) ≡ (eqb q n || is_within q r)
within_widened n r q some begins ends = same_answer (is_within q (widened n r)) (eqb q n || is_within q r)
    (λ e.
    let low : min r.first n ≤ q = within_low q (widened n r) e in
    let high : q ≤ max r.last n = within_high q (widened n r) e in
    elim (cases_eq q n) [
      | inl is ↦ or_left (eqb q n) (is_within q r) (eq-eqb q n is)
      | inr other ↦ or_right (eqb q n) (is_within q r) (within_so q r (omega (arith, low, begins, other)) (omega (arith, high, ends, other)))
    ])
    (λ e. elim (or_cases (eqb q n) (is_within q r) e) [
      | inl at ↦
          let is : q ≡ n = eqb-true q n at in
          within_so q (widened n r) (omega (arith, is)) (omega (arith, is))
      | inr inside ↦
          let low : r.first ≤ q = within_low q r inside in
          let high : q ≤ r.last = within_high q r inside in
          within_so q (widened n r) (omega (arith, low)) (omega (arith, high))
    ])

within_joined : (r s : Range) (q : ℕ) → r.first ≤ r.last → r.first ≤ s.first → s.first ≤ s.last → s.first ≤ r.last + 1 → r.last ≤ s.last → is_within q (range r.first s.last) ≡ (is_within q r || is_within q s)
within_joined r s q some order next touch far = same_answer (is_within q (range r.first s.last)) (is_within q r || is_within q s)
    (λ e.
    let low : r.first ≤ q = within_low q (range r.first s.last) e in
    let high : q ≤ s.last = within_high q (range r.first s.last) e in
    elim (cases_lt r.last q) [
      | inl past ↦ or_right (is_within q r) (is_within q s) (within_so q s (omega (arith, past, touch)) high)
      | inr inside ↦ or_left (is_within q r) (is_within q s) (within_so q r low inside)
    ])
    (λ e. elim (or_cases (is_within q r) (is_within q s) e) [
      | inl inside ↦
          let low : r.first ≤ q = within_low q r inside in
          let high : q ≤ r.last = within_high q r inside in
          within_so q (range r.first s.last) low (omega (arith, high, far))
      | inr inside ↦
          let low : s.first ≤ q = within_low q s inside in
          let high : q ≤ s.last = within_high q s inside in
          within_so q (range r.first s.last) (omega (arith, low, order)) high
    ])

-- ---- a list of ranges, and one that has a number more

pub record Adds (n : ℕ) (old new : List Range) : Type 0 where
  pub apart : AreApart new
  pub added : (q : ℕ) → has_number new q ≡ (eqb q n || has_number old q)
  pub begins : (m : ℕ) → m + 1 < n → BeginPast m old → BeginPast m new

pub put_one : (n : ℕ) (rs : List Range) → AreApart rs → beside n rs ≡ None → Adds n rs (range n n ∷ rs)
put_one n rs apart none = record {
  apart = (omega arith, past_gap n rs none, apart);
  added = λ q. ap (λ (b : Bool). b || has_number rs q) (within_one n q);
  begins = λ m low past. low;
}

widen_first : (n : ℕ) (r : Range) (rs : List Range) → n - 1 ≤ r.last → r.first ≤ n + 1 → AreApart (r ∷ rs) → beside (max r.last n) rs ≡ None → Adds n (r ∷ rs) (widened n r ∷ rs)
widen_first n r rs ends begins apart none = record {
  apart = (omega (arith, apart.0), past_gap (max r.last n) rs none, apart.2);
  added = λ q. ap (λ (b : Bool). b || has_number rs q) (within_widened n r q apart.0 begins ends) ∙ or_assoc (eqb q n) (is_within q r) (has_number rs q);
  begins = λ m low past. omega (arith, low, past);
}

join_first : (n : ℕ) (r s : Range) (rs : List Range) → n - 1 ≤ r.last → r.first ≤ n + 1 → AreApart (r ∷ s ∷ rs) → s.first ≤ max r.last n + 1 → Adds n (r ∷ s ∷ rs) (range (min r.first n) s.last ∷ rs)
join_first n r s rs ends begins apart touch =
    let some : r.first ≤ r.last = apart.0 in
    let past : r.last + 1 < s.first = apart.1 in
    let next : s.first ≤ s.last = apart.2.0 in
    record {
      apart = (omega (arith, some, past, next), apart.2.1, apart.2.2);
      added = λ q.
          ap (λ (b : Bool). b || has_number rs q) (within_joined (widened n r) s q (omega (arith, some)) (omega (arith, some, past)) next touch (omega (arith, ends, past, next, touch)))
          ∙ (or_assoc (is_within q (widened n r)) (is_within q s) (has_number rs q)
          ∙ (ap (λ (b : Bool). b || (is_within q s || has_number rs q)) (within_widened n r q some begins ends)
          ∙ or_assoc (eqb q n) (is_within q r) (is_within q s || has_number rs q)));
      begins = λ m low before. omega (arith, low, before);
    }

-- the ranges from some place on, the first of which doesn't end before the number
abbrev pub StartsBy : ℕ → List Range → Type 0
StartsBy n [] = Unit {0}
StartsBy n (r ∷ rs) = n - 1 ≤ r.last

pub widen_at : (n : ℕ) (rs : List Range) (x : Range) → beside n rs ≡ Some x → beside (max x.last n) (drop 1 rs) ≡ None → AreApart rs → StartsBy n rs → Adds n rs (widened n x ∷ drop 1 rs)
widen_at n [] x e none apart starts = absurd (false≢true (ap is_some e))
widen_at n (r ∷ rs) x e none apart starts =
    let it = found (leb r.first (n + 1)) r x e in
    subst (λ (y : Range). Adds n (r ∷ rs) (widened n y ∷ rs)) it.1
    (widen_first n r rs starts (leb-true r.first (n + 1) it.0) apart (subst (λ (y : Range). beside (max y.last n) rs ≡ None) (sym it.1) none))

join_next : (n : ℕ) (r : Range) (rs : List Range) (y : Range) → n - 1 ≤ r.last → r.first ≤ n + 1 → AreApart (r ∷ rs) → beside (max r.last n) rs ≡ Some y → Adds n (r ∷ rs) (range (min r.first n) y.last ∷ drop 1 rs)
join_next n r [] y ends begins apart e = absurd (false≢true (ap is_some e))
join_next n r (s ∷ rs) y ends begins apart e =
    let it = found (leb s.first (max r.last n + 1)) s y e in
    subst (λ (z : Range). Adds n (r ∷ s ∷ rs) (range (min r.first n) z.last ∷ rs)) it.1 (join_first n r s rs ends begins apart (leb-true s.first (max r.last n + 1) it.0))

pub join_at : (n : ℕ) (rs : List Range) (x y : Range) → beside n rs ≡ Some x → beside (max x.last n) (drop 1 rs) ≡ Some y → AreApart rs → StartsBy n rs → Adds n rs (range (min x.first n) y.last ∷ drop 1 (drop 1 rs))
join_at n [] x y e f apart starts = absurd (false≢true (ap is_some e))
join_at n (r ∷ rs) x y e f apart starts =
    let it = found (leb r.first (n + 1)) r x e in
    subst (λ (z : Range). Adds n (r ∷ rs) (range (min z.first n) y.last ∷ drop 1 rs)) it.1
    (join_next n r rs y starts (leb-true r.first (n + 1) it.0) apart (subst (λ (z : Range). beside (max z.last n) rs ≡ Some y) (sym it.1) f))

-- ---- behind the ranges that end before the number

step : (n : ℕ) (r : Range) (rs new : List Range) → r.last < n - 1 → AreApart (r ∷ rs) → Adds n rs new → Adds n (r ∷ rs) (r ∷ new)
step n r rs new before apart more = record {
  apart = (apart.0, more.begins r.last (omega (arith, before)) apart.1, more.apart);
  added = λ q. ap (λ (b : Bool). is_within q r || b) (more.added q) ∙ or_swap (is_within q r) (eqb q n) (has_number rs q);
  begins = λ m low past. past;
}

walk_step : (n : ℕ) (r : Range) (rs : List Range) (k : ℕ) (back : List Range) → AreApart (r ∷ rs)
    → ((AreApart (drop k rs) → StartsBy n (drop k rs) → Adds n (drop k rs) back) → Adds n rs (take k rs ++ back))
    → (b : Bool) → ltb r.last (n - 1) ≡ b
    → (AreApart (drop (cond b (suc k) zero) (r ∷ rs)) → StartsBy n (drop (cond b (suc k) zero) (r ∷ rs)) → Adds n (drop (cond b (suc k) zero) (r ∷ rs)) back)
    → Adds n (r ∷ rs) (take (cond b (suc k) zero) (r ∷ rs) ++ back)
walk_step n r rs k back apart more true ends h = step n r rs (take k rs ++ back) (ltb-true r.last (n - 1) ends) apart (more h)
walk_step n r rs k back apart more false stays h = h apart (ltb-false r.last (n - 1) stays)

pub walk : (n : ℕ) (rs : List Range) (back : List Range) → AreApart rs
    → (AreApart (drop (ends_before (n - 1) rs) rs) → StartsBy n (drop (ends_before (n - 1) rs) rs) → Adds n (drop (ends_before (n - 1) rs) rs) back)
    → Adds n rs (take (ends_before (n - 1) rs) rs ++ back)
walk n [] back apart h = h tt tt
walk n (r ∷ rs) back apart h = walk_step n r rs (ends_before (n - 1) rs) back apart (walk n rs back apart.2) (ltb r.last (n - 1)) refl h
