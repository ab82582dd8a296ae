-- How large a tree is, by which the spelling of a term ends.
use Rattle.std.proofs.Common.{◌≡◌, ℕ, zero, suc, ◌+◌, ◌<◌, ◌≤◌, [], ◌∷◌, length, map, List, slice_index_or, arith, ap, ◌∙◌}
use Rattle.symbolic_runs.specs.declared.term.Term.{Term, Cat}
use Rattle.symbolic_runs.specs.declared.term.Terms.{Terms}
use Rattle.symbolic_runs.specs.Trees.{Tree, joined, seal, digest, Trees, none, piece}
use Rattle.symbolic_runs.specs.Views.{tree, trees, trees_of}
use Rattle.symbolic_runs.proofs.TreeLemmas.{tree-joined}

abbrev mutual
  pub weight : Tree → ℕ
  weight (joined ts) = 2 + weight_all ts
  weight (seal k t) = 2 + weight k + weight t
  weight (digest kind p t) = 2 + weight p + weight t
  weight t = 1

  pub weight_all : Trees → ℕ
  weight_all none = 0
  weight_all (piece t ts) = weight t + weight_all ts

pub lighter_piece : (xs : List Term) (i : ℕ) (x : Term) → i < length xs → x ≡ slice_index_or xs i x → weight (tree x) ≤ weight_all (trees_of (map tree xs))
lighter_piece [] i x p e = absurd (omega (arith, p))
lighter_piece (y ∷ ys) zero x p e = rw e (omega arith)
lighter_piece (y ∷ ys) (suc i) x p e = let q = lighter_piece ys i x (omega (arith, p)) e in omega (arith, q)

pub lighter_pieces : (x : Term) (p : Terms) (xs : List Term) (t : ℕ) → x ≡ Cat p → trees_of (map tree xs) ≡ trees p → weight (tree x) ≡ t → 1 + weight_all (trees_of (map tree xs)) < t
lighter_pieces x p xs t e f g =
    let whole : weight (tree x) ≡ 2 + weight_all (trees p) = ap (λ y. weight (tree y)) e ∙ ap weight (tree-joined p) in
    omega (arith, whole, ap weight_all f, g)
