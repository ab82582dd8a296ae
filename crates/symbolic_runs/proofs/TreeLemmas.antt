-- Lists of terms, and the pieces that they stand for.
use Rattle.std.proofs.Common.{◌≡◌, ℕ, zero, suc, ◌<◌, ◌≤◌, [], ◌∷◌, ◌++◌, length, map, drop, List, true, false, ◌&&◌, refl, sym, ap, ◌∙◌, arith, slice_index_or}
use Rattle.std.proofs.lemmas.List.{map-append, drop_all}
use Rattle.std.proofs.lemmas.Bool.{and_parts, and_left}
use Rattle.symbolic_runs.specs.declared.term.Term.{Term, Cat, fold-roll-Term}
use Rattle.symbolic_runs.specs.declared.term.Term.TheVariants.{rolls-Cat}
use Rattle.symbolic_runs.specs.declared.term.Term.TheOpen.{Term-F, Terms-F}
use Rattle.symbolic_runs.specs.declared.term.Terms.{Terms, out-Terms, roll-Terms, fold_out-Terms, fold-roll-Terms}
use Rattle.symbolic_runs.specs.Trees.{Tree, Trees, joined, same_tree, same_trees}
use Rattle.symbolic_runs.specs.Views.{tree, trees, trees_of, and_last, view_step, list_step}

pub trees_of-last : (ts : List Tree) (t : Tree) → trees_of (ts ++ t ∷ []) ≡ and_last (trees_of ts) t
trees_of-last [] t = refl
trees_of-last (x ∷ xs) t = rw (trees_of-last xs t) refl

-- the pieces of a list of terms are the trees of its items
pub trees-opened : (ts : Terms) → trees ts ≡ trees_of (map tree (out-Terms ts).list.items)
trees-opened ts = fold_out-Terms Tree Trees view_step list_step ts

-- a joined term is its pieces
pub tree-joined : (p : Terms) → tree (Cat p) ≡ joined (trees p)
tree-joined p = ap tree (sym (rolls-Cat p)) ∙ fold-roll-Term Tree Trees view_step list_step (Term-F.Cat p)

pub trees-made : (x : Terms-F Term Terms) → trees (roll-Terms x) ≡ trees_of (map tree x.list.items)
trees-made x = fold-roll-Terms Tree Trees view_step list_step x

pub last_term : (xs : List Term) (x : Term) → trees_of (map tree (xs ++ x ∷ [])) ≡ and_last (trees_of (map tree xs)) (tree x)
last_term xs x = ap trees_of (map-append tree xs (x ∷ [])) ∙ trees_of-last (map tree xs) (tree x)

pub same_length_terms : (xs ys : List Term) → same_trees (trees_of (map tree xs)) (trees_of (map tree ys)) ≡ true → length xs ≡ length ys
same_length_terms [] [] e = refl
same_length_terms [] (y ∷ ys) e = absurd (cc)
same_length_terms (x ∷ xs) [] e = absurd (cc)
same_length_terms (x ∷ xs) (y ∷ ys) e = ap suc (same_length_terms xs ys (and_parts (same_tree (tree x) (tree y)) _ e).1)

-- the comparison of two lists from a place on, where the terms at that place are there
pub same_from : (xs ys : List Term) (i : ℕ) (a b : Term) → i < length xs → i < length ys →
    a ≡ slice_index_or xs i a → b ≡ slice_index_or ys i b →
    same_trees (trees_of (map tree (drop i xs))) (trees_of (map tree (drop i ys)))
    ≡ (same_tree (tree a) (tree b) && same_trees (trees_of (map tree (drop (suc i) xs))) (trees_of (map tree (drop (suc i) ys))))
same_from [] ys i a b p q e f = absurd (omega (arith, p))
same_from (x ∷ xs) [] i a b p q e f = absurd (omega (arith, q))
same_from (x ∷ xs) (y ∷ ys) zero a b p q e f = rw e (rw f refl)
same_from (x ∷ xs) (y ∷ ys) (suc i) a b p q e f = same_from xs ys i a b (omega (arith, p)) (omega (arith, q)) e f

pub differ_from : (xs ys : List Term) (i : ℕ) (a b : Term) → i < length xs → i < length ys →
    a ≡ slice_index_or xs i a → b ≡ slice_index_or ys i b → false ≡ same_tree (tree a) (tree b) →
    same_trees (trees_of (map tree (drop i xs))) (trees_of (map tree (drop i ys))) ≡ false
differ_from xs ys i a b p q e f g = same_from xs ys i a b p q e f ∙ and_left (same_tree (tree a) (tree b)) (same_trees (trees_of (map tree (drop (suc i) xs))) (trees_of (map tree (drop (suc i) ys)))) (sym g)

pub same_at_end : (xs ys : List Term) (i : ℕ) → length xs ≤ i → length ys ≤ i → same_trees (trees_of (map tree (drop i xs))) (trees_of (map tree (drop i ys))) ≡ true
same_at_end xs ys i p q = rw (drop_all i xs p) (rw (drop_all i ys q) refl)
