-- A list, cut at the first element that passes a test.
use Rattle.std.proofs.Common.{◌≡◌, ℕ, ◌<◌, ◌≤◌, List, [], ◌∷◌, Bool, length, take, drop, Some, None, refl, ◌∙◌, arith, inl, inr}
use Rattle.std.specs.List.{position, position_or_len, slice_split}
use Rattle.std.proofs.lemmas.Bool.{cases_lt, le-ltb, lt-ltb}
use Rattle.std.proofs.lemmas.List.{drop-drop}
use Rattle.std.proofs.lemmas.List.Splits.{slice_split_first, slice_split_none}
use Rattle.std.proofs.lemmas.List.Sums.{fails_before_first}

-- the place that `position` gives
position_is : (p : ℕ → Bool) (xs : List ℕ) (at : ℕ) → Some at ≡ position p xs → (at ≡ position_or_len p xs) × (at < length xs)
position_is p xs at e =
    elim (cases_lt (position_or_len p xs) (length xs)) [
      | inl lt ↦ (let s : Some at ≡ Some (position_or_len p xs) = rw lt-ltb at e in let same : at ≡ position_or_len p xs = cc in (same, omega arith))
      | inr le ↦ absurd (let s : Some at ≡ None = rw le-ltb at e in cc)
    ]

position_none : (p : ℕ → Bool) (xs : List ℕ) → None ≡ position p xs → length xs ≤ position_or_len p xs
position_none p xs e =
    elim (cases_lt (position_or_len p xs) (length xs)) [
      | inl lt ↦ absurd (let s : None ≡ Some (position_or_len p xs) = rw lt-ltb at e in cc)
      | inr le ↦ le
    ]

-- a list cut at the place that `position` gives
pub split_found : (p : ℕ → Bool) (xs : List ℕ) (at : ℕ) → Some at ≡ position p xs → slice_split p xs ≡ take at xs ∷ slice_split p (drop 1 (drop at xs))
split_found p xs at e =
    let found = position_is p xs at e in
    let lt : position_or_len p xs < length xs = omega (arith, found.0, found.1) in
    slice_split_first p xs 0 lt ∙ rw (drop-drop 1 at xs, found.0) refl

pub split_missing : (p : ℕ → Bool) (xs : List ℕ) → None ≡ position p xs → slice_split p xs ≡ xs ∷ []
split_missing p xs e =
    let le = position_none p xs e in
    slice_split_none p xs (λ k d lt. fails_before_first p xs k d (omega (arith, le)))
