-- The place of an atom in a reading.
use Rattle.std.proofs.Common.{◌≡◌, ℕ, zero, suc, ◌<◌, ◌+◌, [], ◌∷◌, ◌++◌, length, map, List, Bool, true, false, refl, ap, ◌∙◌, Some, None, inl, inr, slice_index_or, slice_set, position, ltb, ◌≤◌, subst, arith}
use Rattle.std.specs.List.{position_or_len}
use Rattle.std.proofs.lemmas.List.Quantifiers.{position-Some}
use Rattle.std.proofs.lemmas.Bool.{cases_Bool, ltb-false}
use Rattle.symbolic_runs.specs.Trees.{Tree, same_tree}
use Rattle.symbolic_runs.specs.Views.{tree}
use Rattle.symbolic_runs.specs.Spellings.{bytes_of, with_atom}
use Rattle.symbolic_runs.proofs.EqualityLaws.{equal_trees}
use Rattle.symbolic_runs.specs.declared.reading.Entry.{Entry}

abbrev pub pair_of : Entry → Tree × List ℕ
pair_of entry = (tree entry.atom, entry.bytes)

abbrev pub holds : Tree → Entry → Bool
holds t entry = same_tree (tree entry.atom) t

-- an atom that has its place there, and none before it
pub bytes_at : (t : Tree) (xs : List Entry) (i : ℕ) (d : Entry) → i < length xs → holds t (slice_index_or xs i d) ≡ true → ((k : ℕ) → k < i → holds t (slice_index_or xs k d) ≡ false) → bytes_of (map pair_of xs) t ≡ Some (slice_index_or xs i d).bytes
bytes_at t [] i d p h none = absurd (omega (arith, p))
bytes_at t (x ∷ xs) zero d p h none = rw h refl
bytes_at t (x ∷ xs) (suc i) d p h none = rw (none 0 (omega arith)) (bytes_at t xs i d (omega (arith, p)) h (λ k q. none (suc k) (omega (arith, q))))

pub changed_at : (t : Tree) (b : List ℕ) (new : Entry) (xs : List Entry) (i : ℕ) (d : Entry) → i < length xs → holds t (slice_index_or xs i d) ≡ true → ((k : ℕ) → k < i → holds t (slice_index_or xs k d) ≡ false) → pair_of new ≡ (t, b) → map pair_of (slice_set xs i new) ≡ with_atom t b (map pair_of xs)
changed_at t b new [] i d p h none e = absurd (omega (arith, p))
changed_at t b new (x ∷ xs) zero d p h none e = rw h (ap (λ y. y ∷ map pair_of xs) e)
changed_at t b new (x ∷ xs) (suc i) d p h none e = rw (none 0 (omega arith)) (ap (λ ys. pair_of x ∷ ys) (changed_at t b new xs i d (omega (arith, p)) h (λ k q. none (suc k) (omega (arith, q))) e))

-- an atom that has no place
pub no_bytes : (t : Tree) (xs : List Entry) (d : Entry) → ((k : ℕ) → k < length xs → holds t (slice_index_or xs k d) ≡ false) → bytes_of (map pair_of xs) t ≡ None
no_bytes t [] d none = refl
no_bytes t (x ∷ xs) d none = rw (none 0 (omega arith)) (no_bytes t xs d (λ k q. none (suc k) (omega (arith, q))))

pub put_last : (t : Tree) (b : List ℕ) (new : Entry) (xs : List Entry) (d : Entry) → ((k : ℕ) → k < length xs → holds t (slice_index_or xs k d) ≡ false) → pair_of new ≡ (t, b) → map pair_of (xs ++ new ∷ []) ≡ with_atom t b (map pair_of xs)
put_last t b new [] d none e = ap (λ y. y ∷ []) e
put_last t b new (x ∷ xs) d none e = rw (none 0 (omega arith)) (ap (λ ys. pair_of x ∷ ys) (put_last t b new xs d (λ k q. none (suc k) (omega (arith, q))) e))

-- where no entry is found, none holds the atom
pub past_all : {X : Type 0} (p : X → Bool) (xs : List X) → position p xs ≡ None → length xs ≤ position_or_len p xs
past_all p xs e = elim (cases_Bool (ltb (position_or_len p xs) (length xs))) [
  | inl found ↦ absurd (let gone : Some (position_or_len p xs) ≡ None = subst (λ o. o ≡ None) (rw found refl) e in cc)
  | inr past ↦ omega (arith, ltb-false (position_or_len p xs) (length xs) past)
]

pub none_passes : {X : Type 0} (p : X → Bool) (xs : List X) (d : X) → length xs ≤ position_or_len p xs → (k : ℕ) → k < length xs → p (slice_index_or xs k d) ≡ false
none_passes p [] d e k q = absurd (omega (arith, q))
none_passes p (x ∷ xs) d e zero q = elim (cases_Bool (p x)) [
  | inl passes ↦ absurd (let r : position_or_len p (x ∷ xs) ≡ 0 = rw passes refl in omega (arith, e, r))
  | inr fails ↦ fails
]
none_passes p (x ∷ xs) d e (suc k) q = elim (cases_Bool (p x)) [
  | inl passes ↦ absurd (let r : position_or_len p (x ∷ xs) ≡ 0 = rw passes refl in omega (arith, e, r))
  | inr fails ↦ none_passes p xs d (let r : position_or_len p (x ∷ xs) ≡ 1 + position_or_len p xs = rw fails refl in omega (arith, e, r)) k (omega (arith, q))
]

pub no_bytes_found : (t : Tree) (xs : List Entry) → position (holds t) xs ≡ None → bytes_of (map pair_of xs) t ≡ None
no_bytes_found t [] e = refl
no_bytes_found t (x ∷ xs) e = no_bytes t (x ∷ xs) x (none_passes (holds t) (x ∷ xs) x (past_all (holds t) (x ∷ xs) e))

pub put_where_none_found : (t : Tree) (b : List ℕ) (new : Entry) (xs : List Entry) → position (holds t) xs ≡ None → pair_of new ≡ (t, b) → map pair_of (xs ++ new ∷ []) ≡ with_atom t b (map pair_of xs)
put_where_none_found t b new xs e f = put_last t b new xs new (none_passes (holds t) xs new (past_all (holds t) xs e)) f

pub changed_where_found : (t : Tree) (b : List ℕ) (new old : Entry) (xs : List Entry) (i : ℕ) → position (holds t) xs ≡ Some i → old ≡ slice_index_or xs i old → new ≡ record { atom = old.atom; bytes = b } → map pair_of (slice_set xs i new) ≡ with_atom t b (map pair_of xs)
changed_where_found t b new old xs i e f g =
    let found = position-Some (holds t) xs i old e in
    let same = equal_trees (tree old.atom) t (ap (holds t) f ∙ found.1) in
    changed_at t b new xs i old found.0 found.1 found.2 (ap pair_of g ∙ ap (λ x. (x, b)) same)
