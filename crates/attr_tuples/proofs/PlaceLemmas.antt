-- The first place at which a test passes, as it is found and as it is counted.
use Rattle.std.proofs.Common.{◌≡◌, ℕ, List, Bool, true, false, not, length, Some, None, cond, refl, inl, inr, arith, ltb}
use Rattle.std.specs.List.{position, position_or_len}
use Rattle.std.proofs.lemmas.Bool.{cases_lt, lt-ltb}
use Rattle.std.proofs.lemmas.List.Sums.{prefix_len-le-length}

some_only : (t : Bool) (n at : ℕ) → cond t (Some n) None ≡ Some at → at ≡ n
some_only true n at e = cc
some_only false n at e = absurd cc

none_only : (t : Bool) (n : ℕ) → cond t (Some n) None ≡ None → t ≡ false
none_only true n e = absurd cc
none_only false n e = refl

pub place_found : {X : Type 0} (p : X → Bool) (xs : List X) (at : ℕ) → position p xs ≡ Some at → at ≡ position_or_len p xs
place_found p xs at e = some_only (ltb (position_or_len p xs) (length xs)) (position_or_len p xs) at e

pub none_found : {X : Type 0} (p : X → Bool) (xs : List X) → position p xs ≡ None → length xs ≡ position_or_len p xs
none_found p xs e =
    let test = none_only (ltb (position_or_len p xs) (length xs)) (position_or_len p xs) e in
    elim (cases_lt (position_or_len p xs) (length xs)) [
      | inl lt ↦ absurd (let t = lt-ltb (position_or_len p xs) (length xs) lt in (cc))
      | inr le ↦ omega (arith, prefix_len-le-length (λ x. not (p x)) xs)
    ]
