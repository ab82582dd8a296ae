-- Pieces that are gathered one after the other, and conclusions likewise.
use Rattle.std.proofs.Common.{◌≡◌, zero, suc, ◌+◌, ◌<◌, [], ◌∷◌, ◌++◌, length, map, drop, List, refl, sym, ap, ◌∙◌, Option, Some, None, option_map, option_and_then, ◌≤◌, slice_index_or, is_some, true, Bool, ℕ}
use Rattle.std.proofs.lemmas.List.{at_drop_more, drop_all}
use Rattle.std.specs.List.{slice_get}
use Rattle.symbolic_runs.specs.Trees.{Tree, Trees, none, piece, piece_at}
use Rattle.symbolic_runs.specs.declared.proof.ProofStep.{ProofStep}
use Rattle.symbolic_runs.specs.declared.term.Term.{Term, Cat}
use Rattle.symbolic_runs.specs.declared.term.Terms.{Terms}
use Rattle.symbolic_runs.specs.Derivations.{Derives, IsProof, conclusions, part_of, pieces_at}
use Rattle.symbolic_runs.proofs.DerivationLaws.{conclusions_derive}
use Rattle.symbolic_runs.proofs.TreeLemmas.{tree-joined}
use Rattle.symbolic_runs.proofs.StepLaws.{holds_each}
use Rattle.symbolic_runs.specs.Views.{tree, trees, trees_of}

-- pieces behind a list of trees
abbrev pub pieces_behind : List Tree → Trees → Trees
pieces_behind [] ts = ts
pieces_behind (x ∷ xs) ts = piece x (pieces_behind xs ts)

pub behind_none : (xs : List Tree) → pieces_behind xs none ≡ trees_of xs
behind_none [] = refl
behind_none (x ∷ xs) = ap (piece x) (behind_none xs)

pub behind_one_more : (xs : List Tree) (t : Tree) (ts : Trees) → pieces_behind (xs ++ t ∷ []) ts ≡ pieces_behind xs (piece t ts)
behind_one_more [] t ts = refl
behind_one_more (x ∷ xs) t ts = ap (piece x) (behind_one_more xs t ts)

pub behind_all : (xs : List Tree) (t : Tree) (o : Option Trees) → option_map (pieces_behind xs) (option_map (piece t) o) ≡ option_map (pieces_behind (xs ++ t ∷ [])) o
behind_all xs t None = refl
behind_all xs t (Some ts) = ap Some (sym (behind_one_more xs t ts))

pub join_step : (done : List Tree) (places : List ℕ) (i d : ℕ) (xs : List Tree) (t : Tree) → i < length places → Some t ≡ slice_get done (slice_index_or places i d) →
    pieces_at done places ≡ option_map (pieces_behind xs) (pieces_at done (drop i places)) →
    pieces_at done places ≡ option_map (pieces_behind (xs ++ t ∷ [])) (pieces_at done (drop (i + 1) places))
join_step done places i d xs t p e inv =
    inv
    ∙ ap (option_map (pieces_behind xs)) (at_drop_more (pieces_at done) places i d p ∙ ap (option_and_then (λ x. option_map (piece x) (pieces_at done (drop (i + 1) places)))) (sym e))
    ∙ behind_all xs t (pieces_at done (drop (i + 1) places))

pub join_end : (done : List Tree) (places : List ℕ) (i : ℕ) (xs : List Tree) → length places ≤ i →
    pieces_at done places ≡ option_map (pieces_behind xs) (pieces_at done (drop i places)) → pieces_at done places ≡ Some (trees_of xs)
join_end done places i xs p inv = inv ∙ ap (λ l. option_map (pieces_behind xs) (pieces_at done l)) (drop_all i places p) ∙ ap Some (behind_none xs)

piece_of_list : (xs : List Tree) (i : ℕ) → piece_at (trees_of xs) i ≡ slice_get xs i
piece_of_list [] i = refl
piece_of_list (x ∷ xs) zero = refl
piece_of_list (x ∷ xs) (suc i) = piece_of_list xs i

pub part_of_terms : (x : Term) (p : Terms) (xs : List Term) (i : ℕ) → x ≡ Cat p → trees_of (map tree xs) ≡ trees p → slice_get (map tree xs) i ≡ part_of (tree x) i
part_of_terms x p xs i e f = sym (piece_of_list (map tree xs) i) ∙ ap (λ ts. piece_at ts i) f ∙ sym (ap (λ y. part_of (tree y) i) e ∙ ap (λ y. part_of y i) (tree-joined p))

-- what stands behind the answer that all rules hold
abbrev pub Proved : List Tree → List ProofStep → Type 0
Proved known steps = (ends : List Tree) × IsProof known steps ends × ((index : ℕ) (t : Tree) → slice_get ends index ≡ Some t → Derives known t)

proved_by : (known : List Tree) (steps : List ProofStep) (o : Option (List Tree)) (ts : Trees) → conclusions known steps ≡ o → Some ts ≡ option_map trees_of o → Proved known steps
proved_by known steps None ts e f = absurd (cc)
proved_by known steps (Some ends) ts e f = (ends, holds_each known ends steps e, conclusions_derive known ends steps e)

pub proved : (known : List Tree) (steps : List ProofStep) (o : Option Terms) (b : Bool) → option_map trees o ≡ option_map trees_of (conclusions known steps) → b ≡ is_some o → b ≡ true → Proved known steps
proved known steps None b e f g = absurd (cc)
proved known steps (Some ts) b e f g = proved_by known steps (conclusions known steps) (trees ts) refl e
