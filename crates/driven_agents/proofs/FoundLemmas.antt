-- What is found in a list of which some are left out, or to which one is added.
use Rattle.std.proofs.Common.{◌≡◌, ℕ, List, [], ◌∷◌, ◌++◌, Bool, true, false, cond, ◌&&◌, Option, Some, None, refl, sym, ap, ◌∙◌}
use Rattle.std.specs.Prelude.{filter, find, option_map}
use Rattle.std.specs.List.{list_all}
use Rattle.std.proofs.lemmas.Bool.{and_parts}

-- those that are looked for are kept
kept_step : {X : Type 0} (p keep : X → Bool) (x : X) (xs : List X) (a b : Bool) → p x ≡ a → keep x ≡ b → (a ≡ true → b ≡ true) → find p (filter keep xs) ≡ find p xs → find p (cond b (x ∷ filter keep xs) (filter keep xs)) ≡ cond a (Some x) (find p xs)
kept_step p keep x xs a true is kept all more = ap (λ b. cond b (Some x) (find p (filter keep xs))) is ∙ ap (λ o. cond a (Some x) o) more
kept_step p keep x xs true false is kept all more = absurd (let no_way : false ≡ true = all refl in cc)
kept_step p keep x xs false false is kept all more = more

pub found_kept : {X : Type 0} (p keep : X → Bool) (xs : List X) → ((x : X) → p x ≡ true → keep x ≡ true) → find p (filter keep xs) ≡ find p xs
found_kept p keep [] all = refl
found_kept p keep (x ∷ xs) all = kept_step p keep x xs (p x) (keep x) refl refl (all x) (found_kept p keep xs all)

-- the one that was found is
first_step : {X : Type 0} (p keep : X → Bool) (x which : X) (xs : List X) (a b : Bool) → p x ≡ a → keep x ≡ b → cond a (Some x) (find p xs) ≡ Some which → keep which ≡ true → (find p xs ≡ Some which → find p (filter keep xs) ≡ Some which) → find p (cond b (x ∷ filter keep xs) (filter keep xs)) ≡ Some which
first_step p keep x which xs true true is kept found stays more = ap (λ b. cond b (Some x) (find p (filter keep xs))) is ∙ found
first_step p keep x which xs true false is kept found stays more = absurd (let same : x ≡ which = cc in let no_way : false ≡ true = sym kept ∙ (ap keep same ∙ stays) in cc)
first_step p keep x which xs false true is kept found stays more = ap (λ b. cond b (Some x) (find p (filter keep xs))) is ∙ more found
first_step p keep x which xs false false is kept found stays more = more found

pub found_stays : {X : Type 0} (p keep : X → Bool) (xs : List X) (which : X) → find p xs ≡ Some which → keep which ≡ true → find p (filter keep xs) ≡ Some which
found_stays p keep [] which found stays = absurd cc
found_stays p keep (x ∷ xs) which found stays = first_step p keep x which xs (p x) (keep x) refl refl found stays (λ f. found_stays p keep xs which f stays)

-- all pass a test that each of them passes
all_step : {X : Type 0} (x : X) (xs : List X) (b : Bool) → b ≡ true → cond b (x ∷ xs) xs ≡ x ∷ xs
all_step x xs true is = refl
all_step x xs false is = absurd cc

pub all_pass : {X : Type 0} (keep : X → Bool) (xs : List X) → list_all keep xs ≡ true → filter keep xs ≡ xs
all_pass keep [] all = refl
all_pass keep (x ∷ xs) all =
    let parts = and_parts (keep x) (list_all keep xs) all in
    ap (λ ys. cond (keep x) (x ∷ ys) ys) (all_pass keep xs parts.1) ∙ all_step x xs (keep x) parts.0

-- what is found passes what all pass, and is what was looked for
step_passes : {X : Type 0} (test p : X → Bool) (x which : X) (xs : List X) (b : Bool) → p x ≡ b → cond b (Some x) (find p xs) ≡ Some which → (test x && list_all test xs) ≡ true → (find p xs ≡ Some which → list_all test xs ≡ true → (test which ≡ true) × (p which ≡ true)) → (test which ≡ true) × (p which ≡ true)
step_passes test p x which xs true is found all more = let same : x ≡ which = cc in (ap test (sym same) ∙ (and_parts (test x) (list_all test xs) all).0, ap p (sym same) ∙ is)
step_passes test p x which xs false is found all more = more found (and_parts (test x) (list_all test xs) all).1

pub found_passes : {X : Type 0} (test p : X → Bool) (xs : List X) (which : X) → find p xs ≡ Some which → list_all test xs ≡ true → (test which ≡ true) × (p which ≡ true)
found_passes test p [] which found all = absurd cc
found_passes test p (x ∷ xs) which found all = step_passes test p x which xs (p x) refl found all (found_passes test p xs which)

-- ---- one more at the end

last_step : {X : Type 0} (x : X) (a b : Option X) (c : Bool) → a ≡ b → cond c (Some x) a ≡ cond c (Some x) b
last_step x a b c e = ap (λ o. cond c (Some x) o) e

-- it isn't looked for
pub found_before : {X : Type 0} (p : X → Bool) (xs : List X) (x : X) → p x ≡ false → find p (xs ++ x ∷ []) ≡ find p xs
found_before p [] x off = ap (λ b. cond b (Some x) None) off
found_before p (y ∷ xs) x off = last_step y (find p (xs ++ x ∷ [])) (find p xs) (p y) (found_before p xs x off)

-- it is, and nothing was found before it
none_step : {X : Type 0} (p : X → Bool) (y x : X) (xs : List X) (c : Bool) → cond c (Some y) (find p xs) ≡ None → (find p xs ≡ None → find p (xs ++ x ∷ []) ≡ Some x) → cond c (Some y) (find p (xs ++ x ∷ [])) ≡ Some x
none_step p y x xs true none more = absurd cc
none_step p y x xs false none more = more none

pub found_last : {X : Type 0} (p : X → Bool) (xs : List X) (x : X) → find p xs ≡ None → p x ≡ true → find p (xs ++ x ∷ []) ≡ Some x
found_last p [] x none is = ap (λ b. cond b (Some x) None) is
found_last p (y ∷ xs) x none is = none_step p y x xs (p y) none (λ f. found_last p xs x f is)

-- ---- by a function of what is found

pub record Found {X : Type 0} (f : X → ℕ) (o : Option X) (n : ℕ) : Type 0 where
  pub which : X
  pub found : o ≡ Some which
  pub gives : f which ≡ n

pub found_by : {X : Type 0} (f : X → ℕ) (o : Option X) (n : ℕ) → option_map f o ≡ Some n → Found f o n
found_by f None n is = absurd cc
found_by f (Some x) n is = record { which = x; found = refl; gives = cc }

pub none_by : {X : Type 0} (f : X → ℕ) (o : Option X) → option_map f o ≡ None → o ≡ None
none_by f None is = refl
none_by f (Some x) is = absurd cc
