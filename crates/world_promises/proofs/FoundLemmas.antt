-- Who is found in a list.
use Rattle.std.proofs.Common.{◌≡◌, ℕ, List, [], ◌∷◌, Bool, true, false, cond, ◌&&◌, Some, None, refl, sym, ap, ◌∙◌, inl, inr, map}
use Rattle.std.specs.Prelude.{find, option_map}
use Rattle.std.specs.List.{filter, list_all}
use Rattle.std.proofs.lemmas.Bool.{cases_Bool}
use Rattle.driven_agents.proofs.FoundLemmas.{found_by, found_passes}

pub found_first : {X : Type 0} (p : X → Bool) (x y : X) (xs : List X) → p x ≡ true → find p (x ∷ xs) ≡ Some y → x ≡ y
found_first p x y xs on e = let there : Some x ≡ Some y = sym (ap (λ b. cond b (Some x) (find p xs)) on) ∙ e in cc

pub found_later : {X : Type 0} (p : X → Bool) (x y : X) (xs : List X) → p x ≡ false → find p (x ∷ xs) ≡ Some y → find p xs ≡ Some y
found_later p x y xs off e = sym (ap (λ b. cond b (Some x) (find p xs)) off) ∙ e

pub first_found : {X : Type 0} (p : X → Bool) (x : X) (xs : List X) → p x ≡ true → find p (x ∷ xs) ≡ Some x
first_found p x xs on = ap (λ b. cond b (Some x) (find p xs)) on

pub later_found : {X : Type 0} (p : X → Bool) (x : X) (xs : List X) → p x ≡ false → find p (x ∷ xs) ≡ find p xs
later_found p x xs off = ap (λ b. cond b (Some x) (find p xs)) off

-- the number of what is found passes what all numbers pass
pub number_passes : {X : Type 0} (f : X → ℕ) (p : X → Bool) (test : ℕ → Bool) (xs : List X) (n : ℕ) → option_map f (find p xs) ≡ Some n → list_all (λ x. test (f x)) xs ≡ true → test n ≡ true
number_passes f p test xs n e all = let x = found_by f (find p xs) n e in ap test (sym x.gives) ∙ (found_passes (λ x. test (f x)) p xs x.which x.found all).0

-- a test of the numbers
pub all_numbers : {X : Type 0} (f : X → ℕ) (test : ℕ → Bool) (xs : List X) → list_all (λ x. test (f x)) xs ≡ list_all test (map f xs)
all_numbers f test [] = refl
all_numbers f test (x ∷ xs) = ap (λ b. test (f x) && b) (all_numbers f test xs)

-- where none passes, none does of those that are kept
pub none_kept : {X : Type 0} (p keep : X → Bool) (xs : List X) → find p xs ≡ None → find p (filter keep xs) ≡ None
none_kept p keep [] none = refl
none_kept p keep (x ∷ xs) none = elim (cases_Bool (p x)) [
  | inl on ↦ absurd (let no_way : Some x ≡ None = sym (first_found p x xs on) ∙ none in cc)
  | inr off ↦ let rest = none_kept p keep xs (sym (later_found p x xs off) ∙ none) in elim (cases_Bool (keep x)) [
    | inl kept ↦ rw kept (later_found p x (filter keep xs) off ∙ rest)
    | inr left ↦ rw left rest
  ]
]
