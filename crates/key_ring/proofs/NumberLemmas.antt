-- Keys of a list whose numbers rise, and their places.
use Rattle.std.proofs.Common.{◌≡◌, ℕ, zero, suc, ◌<◌, ◌≤◌, ◌==◌, List, [], ◌∷◌, Bool, true, false, ltb, length, get_or, Some, None, refl, sym, ap, ◌∙◌, inl, inr, arith}
use Rattle.std.specs.Prelude.{find, position}
use Rattle.std.specs.List.{position_or_len, slice_get}
use Rattle.std.specs.List.Sorted.{IsNonDecreasingBy, IsPartitionPoint}
use Rattle.std.proofs.lemmas.Bool.{cases_lt, lt-ltb, le-ltb, ltb-true, ltb-false, ne_eqb, eq-eqb}
use Rattle.std.proofs.lemmas.List.Folds.{find_at}
use Rattle.std.proofs.lemmas.List.Sums.{position_or_len_is}
use Rattle.std.proofs.lemmas.List.Quantifiers.{position-Some}
use Rattle.key_lists.specs.Lists.{KeyEntry}
use Rattle.key_ring.specs.Ranks.{IsRising}

-- whether a key has a number
abbrev pub has_number : ℕ → KeyEntry → Bool
has_number n key = key.serial == n

-- the numbers don't fall
pub not_falling : (keys : List KeyEntry) → IsRising keys → IsNonDecreasingBy (λ (key : KeyEntry). key.serial) keys
not_falling keys rising i j d le lt = elim (cases_lt i j) [
  | inl less ↦ (let up = rising i j d less lt in omega arith)
  | inr more ↦ (let same : i ≡ j = omega arith in omega (arith, ap (λ (k : ℕ). (get_or keys k d).serial) same))
]

-- ---- places

pub get_at : {X : Type 0} (xs : List X) (at : ℕ) (d : X) → at < length xs → slice_get xs at ≡ Some (get_or xs at d)
get_at [] at d lt = absurd (omega arith)
get_at (x ∷ xs) zero d lt = refl
get_at (x ∷ xs) (suc at) d lt = get_at xs at d (omega arith)

-- what stands at the place of the first that passes is what is found
pub found_at : (p : KeyEntry → Bool) (keys : List KeyEntry) (at : ℕ) (d : KeyEntry) → position p keys ≡ Some at → Some (get_or keys at d) ≡ find p keys
found_at p keys at d e =
    let first = position-Some p keys at d e in
    let place = position_or_len_is p keys at d (omega (arith, first.0)) first.2 (λ _. first.1) in
    sym (find_at p keys ∙ ap (slice_get keys) place ∙ get_at keys at d first.0)

pub found_nowhere : (p : KeyEntry → Bool) (keys : List KeyEntry) → position p keys ≡ None → None ≡ find p keys
found_nowhere p [] e = refl
found_nowhere p keys e = elim (cases_lt (position_or_len p keys) (length keys)) [
  | inl lt ↦ absurd (let s : Some (position_or_len p keys) ≡ None = rw lt-ltb at e in cc)
  | inr le ↦ sym (find_at p keys ∙ get_past keys (position_or_len p keys) le)
]
  where
    get_past : {X : Type 0} (xs : List X) (at : ℕ) → length xs ≤ at → slice_get xs at ≡ None
    get_past [] at le = refl
    get_past (x ∷ xs) zero le = absurd (omega arith)
    get_past (x ∷ xs) (suc at) le = get_past xs at (omega arith)

-- at is the place behind the numbers that are lower than n
abbrev pub IsBehindLower : ℕ → List KeyEntry → ℕ → Type 0
IsBehindLower n keys at = IsPartitionPoint (λ key. ltb key.serial n ≡ true) (λ key. ltb key.serial n ≡ false) keys at

pub same_at : {X : Type 0} (xs : List X) (k : ℕ) (d e : X) → k < length xs → get_or xs k d ≡ get_or xs k e
same_at [] k d e lt = absurd (omega arith)
same_at (x ∷ xs) zero d e lt = refl
same_at (x ∷ xs) (suc k) d e lt = same_at xs k d e (omega arith)

-- that is the place of the number, if the key there has it
pub place_here : (n : ℕ) (keys : List KeyEntry) (at : ℕ) (here : KeyEntry) → at ≤ length keys → (at ≡ length keys → ⊥) → IsBehindLower n keys at → here ≡ get_or keys at here → here.serial ≡ n → Some at ≡ position (has_number n) keys
place_here n keys at here le ne point is same =
    let numbered_so : has_number n (get_or keys at here) ≡ true = eq-eqb _ _ (sym (ap (λ (key : KeyEntry). key.serial) is) ∙ same) in
    let place = position_or_len_is (has_number n) keys at here le (λ k lt. ne_eqb _ _ (λ e. let less = ltb-true _ _ (point.0 k here (omega arith) lt) in omega (arith, less, e))) (λ _. numbered_so) in
    let lt : at < length keys = cases_ne at (length keys) le ne in
    rw (place, lt-ltb at (length keys) lt) refl
  where
    cases_ne : (a b : ℕ) → a ≤ b → (a ≡ b → ⊥) → a < b
    cases_ne a b le ne = elim (cases_lt a b) [ inl lt ↦ lt | inr more ↦ absurd (ne (omega arith)) ]

nowhere : (n : ℕ) (keys : List KeyEntry) (d : KeyEntry) → ((k : ℕ) → k < length keys → has_number n (get_or keys k d) ≡ false) → None ≡ position (has_number n) keys
nowhere n keys d none =
    let place = position_or_len_is (has_number n) keys (length keys) d (omega arith) (λ k lt. none k lt) (λ lt. absurd (omega (arith, lt))) in
    rw (place, le-ltb (length keys) (length keys) (omega arith)) refl

-- where there is no key there, or one of another number, there is none of this number
pub place_past : (n : ℕ) (keys : List KeyEntry) (at : ℕ) → at ≡ length keys → IsBehindLower n keys at → None ≡ position (has_number n) keys
place_past n keys at all point =
    let d : KeyEntry = record { tuple = []; serial = 0 } in
    nowhere n keys d (λ k lt. ne_eqb _ _ (λ e. let less = ltb-true _ _ (point.0 k d (omega arith) (omega (arith, lt, all))) in omega (arith, less, e)))

pub place_other : (n : ℕ) (keys : List KeyEntry) (at : ℕ) (here : KeyEntry) → IsRising keys → IsBehindLower n keys at → at ≤ length keys → (at ≡ length keys → ⊥) → here ≡ get_or keys at here → (here.serial ≡ n → ⊥) → None ≡ position (has_number n) keys
place_other n keys at here rising point le ne is differs =
    nowhere n keys here (λ k lt. elim (cases_lt k at) [
      | inl before ↦ ne_eqb _ _ (λ e. let less = ltb-true _ _ (point.0 k here (omega arith) before) in omega (arith, less, e))
      | inr behind ↦ ne_eqb _ _ (λ e.
          let within : at < length keys = omega arith in
          let least = ltb-false _ _ (point.1 at here (omega arith) within) in
          elim (cases_lt at k) [
            | inl more ↦ (let up = rising at k here more lt in absurd (omega (arith, up, e, least)))
            | inr le ↦ (let same : k ≡ at = omega arith in differs (ap (λ (key : KeyEntry). key.serial) is ∙ ap (λ (i : ℕ). (get_or keys i here).serial) (sym same) ∙ e))
          ])
    ])
