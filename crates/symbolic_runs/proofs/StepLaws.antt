-- A derivation holds exactly where each step concludes its tree from those before it.
use Rattle.std.proofs.Common.{◌≡◌, ℕ, zero, suc, [], ◌∷◌, ◌++◌, length, take, List, refl, sym, ap, ◌∙◌, Some, option_and_then, arith, subst, append_assoc}
use Rattle.std.proofs.lemmas.Option.{option_and_then_some}
use Rattle.std.specs.List.{slice_get}
use Rattle.symbolic_runs.specs.declared.proof.ProofStep.{ProofStep}
use Rattle.symbolic_runs.specs.Trees.{Tree}
use Rattle.symbolic_runs.specs.Derivations.{conclusion, conclusions, conclusions_after, IsProof}
use Rattle.symbolic_runs.proofs.DerivationLaws.{Some_injective}

-- the steps conclude these trees behind those that stand already
record Goes (known done : List Tree) (steps : List ProofStep) (new : List Tree) : Type 0 where
  pub one_each : length new ≡ length steps
  pub each : (index : ℕ) (step : ProofStep) (t : Tree) → slice_get steps index ≡ Some step → slice_get new index ≡ Some t → conclusion known (done ++ take index new) step ≡ Some t

record Split (known done : List Tree) (steps : List ProofStep) (ends : List Tree) : Type 0 where
  pub new : List Tree
  pub ends_so : ends ≡ done ++ new
  pub goes : Goes known done steps new

append_none : (xs : List Tree) → xs ++ [] ≡ xs
append_none [] = refl
append_none (x ∷ xs) = rw (append_none xs) refl

one_further : (known done : List Tree) (step : ProofStep) (steps : List ProofStep) (t : Tree) (new : List Tree) → conclusion known done step ≡ Some t → Goes known (done ++ t ∷ []) steps new →
    (index : ℕ) (s : ProofStep) (x : Tree) → slice_get (step ∷ steps) index ≡ Some s → slice_get (t ∷ new) index ≡ Some x → conclusion known (done ++ take index (t ∷ new)) s ≡ Some x
one_further known done step steps t new found goes zero s x e f = subst (λ (d : List Tree). conclusion known d s ≡ Some x) (sym (append_none done)) (ap (conclusion known done) (sym (Some_injective step s e)) ∙ found ∙ f)
one_further known done step steps t new found goes (suc index) s x e f = subst (λ (d : List Tree). conclusion known d s ≡ Some x) (append_assoc done (t ∷ []) (take index new)) (goes.each index s x e f)

goes_on : (known done : List Tree) (step : ProofStep) (steps : List ProofStep) (t : Tree) (new : List Tree) → conclusion known done step ≡ Some t → Goes known (done ++ t ∷ []) steps new → Goes known done (step ∷ steps) (t ∷ new)
goes_on known done step steps t new found goes = record { one_each = ap suc goes.one_each; each = one_further known done step steps t new found goes }

split : (known : List Tree) (steps : List ProofStep) (done ends : List Tree) → conclusions_after known done steps ≡ Some ends → Split known done steps ends
split known [] done ends e = record { new = []; ends_so = sym (Some_injective done ends e) ∙ sym (append_none done); goes = record { one_each = refl; each = λ index step t f g. absurd (cc) } }
split known (step ∷ steps) done ends e =
    option_and_then_some (λ t. conclusions_after known (done ++ t ∷ []) steps) (conclusion known done step) ends e
    (λ t found rest. let more = split known steps (done ++ t ∷ []) ends rest in
    record { new = t ∷ more.new; ends_so = more.ends_so ∙ append_assoc done (t ∷ []) more.new; goes = goes_on known done step steps t more.new found more.goes })

pub holds_each : (known ends : List Tree) (steps : List ProofStep) → conclusions known steps ≡ Some ends → IsProof known steps ends
holds_each known ends steps e =
    let parts = split known steps [] ends e in
    subst (IsProof known steps) (sym parts.ends_so) (record { one_each = parts.goes.one_each; each = parts.goes.each })

joins : (known : List Tree) (steps : List ProofStep) (done new : List Tree) → Goes known done steps new → conclusions_after known done steps ≡ Some (done ++ new)
joins known [] done [] goes = ap Some (sym (append_none done))
joins known [] done (t ∷ new) goes = absurd (let e = goes.one_each in omega (arith, e))
joins known (step ∷ steps) done [] goes = absurd (let e = goes.one_each in omega (arith, e))
joins known (step ∷ steps) done (t ∷ new) goes =
    let found : conclusion known done step ≡ Some t = subst (λ (d : List Tree). conclusion known d step ≡ Some t) (append_none done) (goes.each 0 step t refl refl) in
    let rest = joins known steps (done ++ t ∷ []) new (record {
      one_each = omega (arith, goes.one_each);
      each = λ index s x e f. subst (λ (d : List Tree). conclusion known d s ≡ Some x) (sym (append_assoc done (t ∷ []) (take index new))) (goes.each (suc index) s x e f);
    }) in
    ap (option_and_then (λ x. conclusions_after known (done ++ x ∷ []) steps)) found ∙ rest ∙ ap Some (append_assoc done (t ∷ []) new)

pub each_holds : (known ends : List Tree) (steps : List ProofStep) → IsProof known steps ends → conclusions known steps ≡ Some ends
each_holds known ends steps proof = joins known steps [] ends (record { one_each = proof.one_each; each = proof.each })
