-- What the code writes where a number is put among ranges.
use Rattle.std.proofs.Common.{◌≡◌, ℕ, zero, suc, ◌+◌, ◌-◌, ◌<◌, List, [], ◌∷◌, ◌++◌, length, take, drop, set, min, max, Option, Some, None, refl, sym, subst, ap, ◌∙◌, arith}
use Rattle.std.specs.List.{insert, remove}
use Rattle.std.proofs.lemmas.List.{drop-drop}
use Rattle.wire_base.specs.declared.range.Range.{Range}
use Rattle.wire_base.specs.Spans.{AreApart, beside, ends_before, widened}
use Rattle.wire_base.proofs.PlaceLemmas.{held}
use Rattle.wire_base.proofs.AddLemmas.{Adds, join_at, put_one, range, walk, widen_at}

set_parts : (k : ℕ) (rs : List Range) (x : Range) → k < length rs → set rs k x ≡ take k rs ++ x ∷ drop 1 (drop k rs)
set_parts k [] x within = absurd (omega (arith, within))
set_parts zero (r ∷ rs) x within = refl
set_parts (suc k) (r ∷ rs) x within = ap (λ (l : List Range). r ∷ l) (set_parts k rs x (omega (arith, within)))

removed_parts : (k : ℕ) (rs : List Range) (x : Range) → suc k < length rs → remove (set rs k x) (suc k) ≡ take k rs ++ x ∷ drop 1 (drop 1 (drop k rs))
removed_parts k [] x within = absurd (omega (arith, within))
removed_parts zero (r ∷ []) x within = absurd (omega (arith, within))
removed_parts zero (r ∷ s ∷ rs) x within = refl
removed_parts (suc k) (r ∷ rs) x within = ap (λ (l : List Range). r ∷ l) (removed_parts k rs x (omega (arith, within)))

abbrev place : ℕ → List Range → ℕ
place n rs = ends_before (n - 1) rs

next_is : (n k : ℕ) (rs : List Range) (o : Option Range) → beside n (drop (k + 1) rs) ≡ o → beside n (drop 1 (drop k rs)) ≡ o
next_is n k rs o e = subst (λ (l : List Range). beside n l ≡ o) (sym (drop-drop 1 k rs)) e

adds_one : (n : ℕ) (rs : List Range) → AreApart rs → beside n (drop (place n rs) rs) ≡ None → Adds n rs (insert rs (place n rs) (range n n))
adds_one n rs apart none = walk n rs (range n n ∷ drop (place n rs) rs) apart (λ behind starts. put_one n (drop (place n rs) rs) behind none)

adds_widened : (n : ℕ) (rs : List Range) (x : Range) → AreApart rs → beside n (drop (place n rs) rs) ≡ Some x → beside (max x.last n) (drop (place n rs + 1) rs) ≡ None → Adds n rs (set rs (place n rs) (widened n x))
adds_widened n rs x apart first none =
    let k = place n rs in
    subst (λ (l : List Range). Adds n rs l) (sym (set_parts k rs (widened n x) (held n k rs x first)))
    (walk n rs (widened n x ∷ drop 1 (drop k rs)) apart (λ behind starts. widen_at n (drop k rs) x first (next_is (max x.last n) k rs None none) behind starts))

adds_joined : (n : ℕ) (rs : List Range) (x y : Range) → AreApart rs → beside n (drop (place n rs) rs) ≡ Some x → beside (max x.last n) (drop (place n rs + 1) rs) ≡ Some y → Adds n rs (remove (set rs (place n rs) (range (min x.first n) y.last)) (place n rs + 1))
adds_joined n rs x y apart first second =
    let k = place n rs in
    let joined = range (min x.first n) y.last in
    let within = held (max x.last n) (k + 1) rs y second in
    let back = walk n rs (joined ∷ drop 1 (drop 1 (drop k rs))) apart (λ behind starts. join_at n (drop k rs) x y first (next_is (max x.last n) k rs (Some y) second) behind starts) in
    let next : suc k ≡ k + 1 = omega arith in
    subst (λ (i : ℕ). Adds n rs (remove (set rs k joined) i)) next
    (subst (λ (l : List Range). Adds n rs l) (sym (removed_parts k rs joined (omega (arith, within)))) back)

-- ---- from what the calls ensure

place_of : (n m at : ℕ) (rs : List Range) → at ≡ ends_before m rs → m ≡ n - 1 → at ≡ place n rs
place_of n m at rs here less = here ∙ ap (λ (i : ℕ). ends_before i rs) less

first_at : (n at : ℕ) (rs : List Range) (o p : Option Range) → at ≡ place n rs → o ≡ beside n (drop at rs) → o ≡ p → beside n (drop (place n rs) rs) ≡ p
first_at n at rs o p here told is = ap (λ (i : ℕ). beside n (drop i rs)) (sym here) ∙ (sym told ∙ is)

next_of : (n at : ℕ) (rs : List Range) (x w : Range) (o p : Option Range) → at ≡ place n rs → w ≡ widened n x → o ≡ beside w.last (drop (at + 1) rs) → o ≡ p → beside (max x.last n) (drop (place n rs + 1) rs) ≡ p
next_of n at rs x w o p here wide told is =
    ap (λ (y : Range). beside y.last (drop (place n rs + 1) rs)) (sym wide) ∙ (ap (λ (i : ℕ). beside w.last (drop (i + 1) rs)) (sym here) ∙ (sym told ∙ is))

same_set : (items rs : List Range) (at k : ℕ) (x y : Range) → items ≡ rs → at ≡ k → x ≡ y → set items at x ≡ set rs k y
same_set items rs at k x y same here is = ap (λ (l : List Range). set l at x) same ∙ (ap (λ (i : ℕ). set rs i x) here ∙ ap (λ (r : Range). set rs k r) is)

pub one_written : (n m at : ℕ) (rs items new : List Range) (o : Option Range) → AreApart rs → items ≡ rs → at ≡ ends_before m rs → m ≡ n - 1
    → o ≡ beside n (drop at rs) → o ≡ None → new ≡ insert items at (range n n) → Adds n rs new
one_written n m at rs items new o apart same here less told none written =
    let k = place_of n m at rs here less in
    let is : new ≡ insert rs (place n rs) (range n n) = written ∙ (ap (λ (l : List Range). insert l at (range n n)) same ∙ ap (λ (i : ℕ). insert rs i (range n n)) k) in
    subst (λ (l : List Range). Adds n rs l) (sym is) (adds_one n rs apart (first_at n at rs o None k told none))

pub wide_written : (n m at : ℕ) (rs items : List Range) (x w : Range) (o p : Option Range) → AreApart rs → items ≡ rs → at ≡ ends_before m rs → m ≡ n - 1
    → o ≡ beside n (drop at rs) → o ≡ Some x → w ≡ widened n x → p ≡ beside w.last (drop (at + 1) rs) → p ≡ None → Adds n rs (set items at w)
wide_written n m at rs items x w o p apart same here less told is wide next none =
    let k = place_of n m at rs here less in
    subst (λ (l : List Range). Adds n rs l) (sym (same_set items rs at (place n rs) w (widened n x) same k wide))
    (adds_widened n rs x apart (first_at n at rs o (Some x) k told is) (next_of n at rs x w p None k wide next none))

pub joined_written : (n m at : ℕ) (rs items new : List Range) (x w y : Range) (o p : Option Range) → AreApart rs → items ≡ rs → at ≡ ends_before m rs → m ≡ n - 1
    → o ≡ beside n (drop at rs) → o ≡ Some x → w ≡ widened n x → p ≡ beside w.last (drop (at + 1) rs) → p ≡ Some y
    → new ≡ remove (set items at (range w.first y.last)) (at + 1) → Adds n rs new
joined_written n m at rs items new x w y o p apart same here less told is wide next found written =
    let k = place_of n m at rs here less in
    let joined : range w.first y.last ≡ range (min x.first n) y.last = ap (λ (r : Range). range r.first y.last) wide in
    let put : new ≡ remove (set rs (place n rs) (range (min x.first n) y.last)) (place n rs + 1) =
    written ∙ (ap (λ (l : List Range). remove l (at + 1)) (same_set items rs at (place n rs) (range w.first y.last) (range (min x.first n) y.last) same k joined)
    ∙ ap (λ (i : ℕ). remove (set rs (place n rs) (range (min x.first n) y.last)) (i + 1)) k) in
    subst (λ (l : List Range). Adds n rs l) (sym put) (adds_joined n rs x y apart (first_at n at rs o (Some x) k told is) (next_of n at rs x w p (Some y) k wide next found))
