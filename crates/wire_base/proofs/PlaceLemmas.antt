-- Where a number stands among ranges that stand apart.
use Rattle.std.proofs.Common.{◌≡◌, ℕ, zero, suc, ◌+◌, ◌<◌, ◌≤◌, List, [], ◌∷◌, length, drop, get_or, Bool, true, false, cond, ltb, leb, ◌&&◌, ◌||◌, Option, Some, None, is_some, refl, sym, ap, ◌∙◌, arith}
use Rattle.std.specs.Option.{unwrap_or}
use Rattle.std.specs.List.{AllWithin}
use Rattle.std.proofs.lemmas.Bool.{true≢false, false≢true, cond-true, cond-false, ltb-true, ltb-false, leb-false, lt-leb, le-leb, and_left, and_right, or_from}
use Rattle.wire_base.specs.declared.range.Range.{Range}
use Rattle.wire_base.specs.Spans.{has_number, is_within, AreApart, BeginPast, begun, beside, ends_before}

pub bounded : (n : ℕ) (rs : List Range) → ends_before n rs ≤ length rs
bounded n [] = omega arith
bounded n (r ∷ rs) = here (ltb r.last n) (bounded n rs)
  where
    here : (b : Bool) → ends_before n rs ≤ length rs → cond b (suc (ends_before n rs)) zero ≤ length (r ∷ rs)
    here true le = omega (arith, le)
    here false le = omega arith

-- ---- ranges that stand apart end one behind the other

above : (rs : List Range) (m : ℕ) → BeginPast m rs → AreApart rs → (j : ℕ) (d : Range) → j < length rs → m ≤ (get_or rs j d).last
above [] m past apart j d within = absurd (omega (arith, within))
above (r ∷ rs) m past apart zero d within = omega (arith, past, apart.0)
above (r ∷ rs) m past apart (suc j) d within = let far = above rs r.last apart.1 apart.2 j d (omega (arith, within)) in omega (arith, past, apart.0, far)

pub rises : (rs : List Range) → AreApart rs → (i j : ℕ) (d : Range) → i ≤ j → j < length rs → (get_or rs i d).last ≤ (get_or rs j d).last
rises [] apart i j d le within = absurd (omega (arith, within))
rises (r ∷ rs) apart zero zero d le within = omega arith
rises (r ∷ rs) apart zero (suc j) d le within = above rs r.last apart.1 apart.2 j d (omega (arith, within))
rises (r ∷ rs) apart (suc i) zero d le within = absurd (omega (arith, le))
rises (r ∷ rs) apart (suc i) (suc j) d le within = rises rs apart.2 i j d (omega (arith, le)) (omega (arith, within))

pub place_is : (n : ℕ) (rs : List Range) (i : ℕ) → i ≤ length rs → AllWithin (λ (r : Range). ltb r.last n ≡ true) rs 0 i → AllWithin (λ (r : Range). ltb r.last n ≡ false) rs i (length rs) → i ≡ ends_before n rs
place_is n [] i bound low high = omega (arith, bound)
place_is n (r ∷ rs) zero bound low high = sym (cond-false (ltb r.last n) (suc (ends_before n rs)) zero (high zero r (omega arith) (omega arith)))
place_is n (r ∷ rs) (suc i) bound low high =
    ap suc (place_is n rs i (omega (arith, bound)) (λ k d le up. low (suc k) d (omega arith) (omega (arith, up))) (λ k d le up. high (suc k) d (omega (arith, le)) (omega (arith, up))))
    ∙ sym (cond-true (ltb r.last n) (suc (ends_before n rs)) zero (low zero r (omega arith) (omega arith)))

-- ---- whether a number is in one of them

none_past : (rs : List Range) (m n : ℕ) → BeginPast m rs → AreApart rs → n ≤ m → has_number rs n ≡ false
none_past [] m n past apart le = refl
none_past (r ∷ rs) m n past apart le =
    or_from (is_within n r) (has_number rs n) (and_left (leb r.first n) (leb n r.last) (lt-leb r.first n (omega (arith, past, le))))
    (none_past rs r.last n apart.1 apart.2 (omega (arith, past, le, apart.0)))

first_alone : (a b c : Bool) → b ≡ true → c ≡ false → a ≡ ((a && b) || c)
first_alone true b c is none = sym (ap (λ (t : Bool). t || c) is)
first_alone false b c is none = sym none

begun_step : (n : ℕ) (r : Range) (rs : List Range) (k : ℕ) → AreApart (r ∷ rs) → begun n (drop k rs) ≡ has_number rs n → (b : Bool) → ltb r.last n ≡ b → begun n (drop (cond b (suc k) zero) (r ∷ rs)) ≡ has_number (r ∷ rs) n
begun_step n r rs k apart more true ends =
    more ∙ sym (ap (λ (t : Bool). t || has_number rs n) (and_right (leb r.first n) (leb n r.last) (lt-leb n r.last (ltb-true r.last n ends))))
begun_step n r rs k apart more false stays =
    let le = ltb-false r.last n stays in
    first_alone (leb r.first n) (leb n r.last) (has_number rs n) (le-leb n r.last le) (none_past rs r.last n apart.1 apart.2 le)

pub begun_at : (n : ℕ) (rs : List Range) → AreApart rs → begun n (drop (ends_before n rs) rs) ≡ has_number rs n
begun_at n [] apart = refl
begun_at n (r ∷ rs) apart = begun_step n r rs (ends_before n rs) apart (begun_at n rs apart.2) (ltb r.last n) refl

-- ---- a range that begins right behind a number at the latest, or doesn't

pub gap : (b : Bool) (r : Range) → cond b (Some r) None ≡ None → b ≡ false
gap true r e = absurd (true≢false (ap is_some e))
gap false r e = refl

pub found : (b : Bool) (r x : Range) → cond b (Some r) None ≡ Some x → (b ≡ true) × (r ≡ x)
found true r x e = (refl, ap (λ (o : Option Range). unwrap_or o r) e)
found false r x e = absurd (false≢true (ap is_some e))

pub past_gap : (m : ℕ) (rs : List Range) → beside m rs ≡ None → BeginPast m rs
past_gap m [] none = tt
past_gap m (r ∷ rs) none = leb-false r.first (m + 1) (gap (leb r.first (m + 1)) r none)

pub held : (n : ℕ) (k : ℕ) (rs : List Range) (x : Range) → beside n (drop k rs) ≡ Some x → k < length rs
held n zero [] x e = absurd (false≢true (ap is_some e))
held n (suc k) [] x e = absurd (false≢true (ap is_some e))
held n zero (r ∷ rs) x e = omega arith
held n (suc k) (r ∷ rs) x e = let within = held n k rs x e in omega (arith, within)
