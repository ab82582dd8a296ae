-- The fid of a conversation that is opened isn't held, and is a small number where few are.
use Rattle.std.proofs.Common.{◌≡◌, ℕ, zero, suc, ◌+◌, ◌≤◌, ◌<◌, List, [], ◌∷◌, length, Bool, true, false, cond, eqb, ltb, ◌||◌, not, refl, sym, ap, ◌∙◌, inl, inr, arith}
use Rattle.std.specs.Prelude.{filter}
use Rattle.std.proofs.lemmas.Bool.{cases_Bool, eqb-true, eq-eqb, ltb-false, ltb-true}
use Rattle.std.proofs.lemmas.List.Sums.{count_by-le-length, length-filter}
use Rattle.world_history.specs.Acts.{highest, is_held, least_fid, least_from}

-- ---- the least that isn't held

above : (fid : ℕ) (held : List ℕ) → highest held < fid → is_held fid held ≡ false
above fid [] over = refl
above fid (other ∷ held) over = rw (apart other (eqb other fid) refl (omega arith), above fid held (omega arith)) refl
  where
    apart : (other : ℕ) (b : Bool) → eqb other fid ≡ b → other < fid → b ≡ false
    apart other false is lt = refl
    apart other true is lt = absurd (let same = eqb-true other fid is in let no_way : other < other = omega arith in absurd (omega arith))

free_from : (n fid : ℕ) (held : List ℕ) → highest held < fid + n → is_held (least_from n fid held) held ≡ false
free_from zero fid held over = above fid held (omega arith)
free_from (suc n) fid held over = by_held (is_held fid held) refl (free_from n (fid + 1) held (omega arith))
  where
    by_held : (b : Bool) → is_held fid held ≡ b → is_held (least_from n (fid + 1) held) held ≡ false → is_held (cond b (least_from n (fid + 1) held) fid) held ≡ false
    by_held true is more = more
    by_held false is more = is

pub least_free : (held : List ℕ) → is_held (least_fid held) held ≡ false
least_free held = free_from (highest held) 2 held (omega arith)

rises_from : (n fid : ℕ) (held : List ℕ) → fid ≤ least_from n fid held
rises_from zero fid held = omega arith
rises_from (suc n) fid held = by_held (is_held fid held) (rises_from n (fid + 1) held)
  where
    by_held : (b : Bool) → fid + 1 ≤ least_from n (fid + 1) held → fid ≤ cond b (least_from n (fid + 1) held) fid
    by_held true more = omega arith
    by_held false more = omega arith

pub least_off : (held : List ℕ) → eqb (least_fid held) 0 ≡ false
least_off held = off (least_fid held) (eqb (least_fid held) 0) refl (rises_from (highest held) 2 held)
  where
    off : (fid : ℕ) (b : Bool) → eqb fid 0 ≡ b → 2 ≤ fid → b ≡ false
    off fid false is more = refl
    off fid true is more = absurd (let same = eqb-true fid 0 is in omega arith)

beyond : (fid k : ℕ) → eqb fid k ≡ false → fid ≤ k → fid + 1 ≤ k
beyond fid k apart from = elim (cases_Bool (ltb fid k)) [
  | inl below ↦ omega (arith, ltb-true fid k below)
  | inr over ↦ absurd (let most = ltb-false fid k over in let is : eqb fid k ≡ true = eq-eqb fid k (omega arith) in let no_way : false ≡ true = sym apart ∙ is in cc)
]

-- all below it are held
all_from : (n fid : ℕ) (held : List ℕ) (k : ℕ) → fid ≤ k → k < least_from n fid held → is_held k held ≡ true
all_from zero fid held k from below = absurd (omega arith)
all_from (suc n) fid held k from below = by_held (is_held fid held) refl below (λ from below. all_from n (fid + 1) held k from below)
  where
    by_held : (b : Bool) → is_held fid held ≡ b → k < cond b (least_from n (fid + 1) held) fid → (fid + 1 ≤ k → k < least_from n (fid + 1) held → is_held k held ≡ true) → is_held k held ≡ true
    by_held false is below more = absurd (omega arith)
    by_held true is below more = at (eqb fid k) refl
      where
        at : (c : Bool) → eqb fid k ≡ c → is_held k held ≡ true
        at true same = ap (λ n. is_held n held) (sym (eqb-true fid k same)) ∙ is
        at false other = more (beyond fid k other from) below

below_least : (held : List ℕ) (k : ℕ) → 2 ≤ k → k < least_fid held → is_held k held ≡ true
below_least held k from below = all_from (highest held) 2 held k from below

-- ---- so few are held

pub filter_few : {X : Type 0} (p : X → Bool) (xs : List X) → length (filter p xs) ≤ length xs
filter_few p xs = omega (arith, length-filter p xs, count_by-le-length p xs)

abbrev without : ℕ → List ℕ → List ℕ
without k xs = filter (λ x. not (eqb x k)) xs

shorter : (k : ℕ) (xs : List ℕ) → is_held k xs ≡ true → length (without k xs) < length xs
shorter k [] is = absurd cc
shorter k (x ∷ xs) is = by_first (eqb x k) is (filter_few (λ x. not (eqb x k)) xs) (shorter k xs)
  where
    by_first : (b : Bool) → (b || is_held k xs) ≡ true → length (without k xs) ≤ length xs → (is_held k xs ≡ true → length (without k xs) < length xs) → length (cond (not b) (x ∷ without k xs) (without k xs)) < suc (length xs)
    by_first true is most more = omega arith
    by_first false is most more = omega (arith, more is)

still : (k j : ℕ) (xs : List ℕ) → eqb k j ≡ false → is_held k xs ≡ true → is_held k (without j xs) ≡ true
still k j [] apart is = is
still k j (x ∷ xs) apart is = by_first (eqb x j) (eqb x k) refl refl is (still k j xs apart)
  where
    by_first : (b c : Bool) → eqb x j ≡ b → eqb x k ≡ c → (c || is_held k xs) ≡ true → (is_held k xs ≡ true → is_held k (without j xs) ≡ true) → is_held k (cond (not b) (x ∷ without j xs) (without j xs)) ≡ true
    by_first true true gone mine is more = absurd (let a = eqb-true x j gone in let b = eqb-true x k mine in let same : eqb k j ≡ true = eq-eqb k j (sym b ∙ a) in let no_way : false ≡ true = sym apart ∙ same in cc)
    by_first true false gone mine is more = more is
    by_first false true gone mine is more = rw mine refl
    by_first false false gone mine is more = rw mine (more is)

pub not_same : (k j : ℕ) → k < j → eqb k j ≡ false
not_same k j below = elim (cases_Bool (eqb k j)) [
  | inl same ↦ absurd (let is = eqb-true k j same in let no_way : j < j = omega arith in omega arith)
  | inr other ↦ other
]

-- so many numbers that are among some are no more than these
pigeons : (n from : ℕ) (xs : List ℕ) → ((k : ℕ) → from ≤ k → k < from + n → is_held k xs ≡ true) → n ≤ length xs
pigeons zero from xs all = omega arith
pigeons (suc n) from xs all =
    let last = from + n in
    let less = shorter last xs (all last (omega arith) (omega arith)) in
    let most = pigeons n from (without last xs) (λ k low high. still k last xs (not_same k last high) (all k (omega arith) (omega arith))) in
    omega (arith, less, most)

-- where all that are held are among at most 1024
pub least_small : (held xs : List ℕ) → ((k : ℕ) → is_held k held ≡ true → is_held k xs ≡ true) → length xs ≤ 1024 → least_fid held < 65535
least_small held xs among few = elim (cases_Bool (ltb (least_fid held) 1027)) [
  | inl small ↦ omega (arith, ltb-true (least_fid held) 1027 small)
  | inr over ↦ (
      let most = ltb-false (least_fid held) 1027 over in
      absurd (omega (arith, pigeons 1025 2 xs (λ k low high. among k (below_least held k low (omega arith))))))
]
