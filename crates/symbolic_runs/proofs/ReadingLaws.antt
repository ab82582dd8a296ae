-- A reading in which one atom is given bytes.
use Rattle.std.proofs.Common.{◌≡◌, ℕ, [], ◌∷◌, List, true, false, refl, sym, ap, ◌∙◌, inl, inr, Some, if◌then◌else◌}
use Rattle.std.proofs.lemmas.Bool.{cases_Bool, false_from_ne_true, true≢false}
use Rattle.symbolic_runs.specs.Spellings.{Atoms, bytes_of, with_atom}
use Rattle.symbolic_runs.specs.Trees.{Tree, same_tree}
use Rattle.symbolic_runs.proofs.EqualityLaws.{equal_trees, tree_equals}

two_keys : (a atom t : Tree) → same_tree a atom ≡ false → same_tree a t ≡ true → same_tree atom t ≡ false
two_keys a atom t differs first = false_from_ne_true (same_tree atom t)
    (λ named. true≢false (sym (tree_equals a atom (equal_trees a t first ∙ sym (equal_trees atom t named))) ∙ differs))

pub changed_atom : (atoms : Atoms) (atom t : Tree) (bytes : List ℕ) → bytes_of (with_atom atom bytes atoms) t ≡ (if same_tree atom t then Some bytes else bytes_of atoms t)
changed_atom [] atom t bytes = refl
changed_atom (a ∷ others) atom t bytes = elim (cases_Bool (same_tree a.0 atom)) [
  | inl same ↦ elim (cases_Bool (same_tree atom t)) [
    | inl named ↦ rw same (rw named refl)
    | inr other ↦ rw same (rw (ap (λ x. same_tree x t) (equal_trees a.0 atom same) ∙ other) (rw other refl))
  ]
  | inr differs ↦ elim (cases_Bool (same_tree a.0 t)) [
    | inl first ↦ rw differs (rw first (rw (two_keys a.0 atom t differs first) refl))
    | inr later ↦ rw differs (rw later (changed_atom others atom t bytes))
  ]
]
