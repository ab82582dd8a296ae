-- What a derivation written down concludes follows from what is known, and it holds step by step.
use Rattle.std.proofs.Common.{◌≡◌, ℕ, zero, suc, [], ◌∷◌, ◌++◌, List, refl, sym, inl, inr, ◌⊎◌, Option, Some, None, option_map, option_and_then, subst}
use Rattle.std.proofs.lemmas.Option.{option_and_then_some}
use Rattle.std.proofs.lemmas.Bool.{cases_Bool}
use Rattle.std.specs.List.{slice_get}
use Rattle.symbolic_runs.specs.declared.proof.ProofStep.{ProofStep}
use Rattle.symbolic_runs.specs.declared.proof.ProofStep.TheVariants.{Known, Public, Join, Part, SealUp, OpenUp, MacUp}
use Rattle.symbolic_runs.specs.Trees.{Tree, plain, nonce, challenge, long_key, ticket_key, junk_key, password, joined, seal, digest, Trees, none, piece, same_tree}
use Rattle.symbolic_runs.specs.Derivations.{Derives, DerivesAll, by_knowing, in_public, by_joining, by_parting, by_sealing, by_opening, by_digesting, each_none, each_piece, pieces_at, part_of, body_of, conclusion, conclusions, conclusions_after}
use Rattle.symbolic_runs.proofs.EqualityLaws.{equal_trees}

pub Some_injective : {A : Type 0} (x y : A) → Some x ≡ Some y → x ≡ y
Some_injective x y e = cc

-- what a mapped option holds
pub option_map_some : {A B P : Type 0} (f : A → B) (o : Option A) (y : B) → option_map f o ≡ Some y → ((x : A) → o ≡ Some x → f x ≡ y → P) → P
option_map_some f None y e k = absurd (cc)
option_map_some f (Some x) y e k = k x refl (Some_injective (f x) y e)

-- each tree of a list follows
abbrev pub EachDerives : List Tree → List Tree → Type 0
EachDerives known done = (index : ℕ) (t : Tree) → slice_get done index ≡ Some t → Derives known t

pieces_derive : (known done : List Tree) → EachDerives known done → (places : List ℕ) (ts : Trees) → pieces_at done places ≡ Some ts → DerivesAll known ts
pieces_derive known done h [] ts e = subst (DerivesAll known) (Some_injective none ts e) each_none
pieces_derive known done h (place ∷ places) ts e =
    option_and_then_some (λ t. option_map (piece t) (pieces_at done places)) (slice_get done place) ts e
    (λ t at_place rest. option_map_some (piece t) (pieces_at done places) ts rest
    (λ more at_rest same. subst (DerivesAll known) same (each_piece (h place t at_place) (pieces_derive known done h places more at_rest))))

part_derives : (known : List Tree) (whole t : Tree) (index : ℕ) → Derives known whole → part_of whole index ≡ Some t → Derives known t
part_derives known (joined ts) t index d e = by_parting index e d
part_derives known (plain a) t index d e = absurd (cc)
part_derives known (nonce a) t index d e = absurd (cc)
part_derives known (challenge a) t index d e = absurd (cc)
part_derives known (long_key a) t index d e = absurd (cc)
part_derives known (ticket_key a) t index d e = absurd (cc)
part_derives known (junk_key a) t index d e = absurd (cc)
part_derives known (password a) t index d e = absurd (cc)
part_derives known (seal k a) t index d e = absurd (cc)
part_derives known (digest i p a) t index d e = absurd (cc)

opened_derives : (known : List Tree) (k key body t : Tree) → Derives known (seal k body) → Derives known key → body_of (seal k body) key ≡ Some t → Derives known t
opened_derives known k key body t d dk e = elim (cases_Bool (same_tree k key)) [
  | inl same ↦ subst (Derives known) (Some_injective body t (subst (λ o. o ≡ Some t) (rw same refl) e)) (by_opening d (subst (Derives known) (sym (equal_trees k key same)) dk))
  | inr other ↦ absurd (let gone : None ≡ Some t = subst (λ o. o ≡ Some t) (rw other refl) e in cc)
]

body_derives : (known : List Tree) (whole key t : Tree) → Derives known whole → Derives known key → body_of whole key ≡ Some t → Derives known t
body_derives known (seal k a) key t d dk e = opened_derives known k key a t d dk e
body_derives known (joined ts) key t d dk e = absurd (cc)
body_derives known (plain a) key t d dk e = absurd (cc)
body_derives known (nonce a) key t d dk e = absurd (cc)
body_derives known (challenge a) key t d dk e = absurd (cc)
body_derives known (long_key a) key t d dk e = absurd (cc)
body_derives known (ticket_key a) key t d dk e = absurd (cc)
body_derives known (junk_key a) key t d dk e = absurd (cc)
body_derives known (password a) key t d dk e = absurd (cc)
body_derives known (digest i p a) key t d dk e = absurd (cc)

conclusion_derives : (known done : List Tree) → EachDerives known done → (step : ProofStep) (t : Tree) → conclusion known done step ≡ Some t → Derives known t
conclusion_derives known done h (Known index) t e = by_knowing index e
conclusion_derives known done h (Public bytes) t e = subst (Derives known) (Some_injective (plain bytes) t e) (in_public bytes)
conclusion_derives known done h (Join places) t e =
    option_map_some joined (pieces_at done places) t e (λ ts found same. subst (Derives known) same (by_joining (pieces_derive known done h places ts found)))
conclusion_derives known done h (Part of index) t e =
    option_and_then_some (λ w. part_of w index) (slice_get done of) t e (λ w found part. part_derives known w t index (h of w found) part)
conclusion_derives known done h (SealUp key body) t e =
    option_and_then_some (λ k. option_map (seal k) (slice_get done body)) (slice_get done key) t e
    (λ k found rest. option_map_some (seal k) (slice_get done body) t rest
    (λ b found_body same. subst (Derives known) same (by_sealing (h key k found) (h body b found_body))))
conclusion_derives known done h (OpenUp sealed key) t e =
    option_and_then_some (λ s. option_and_then (body_of s) (slice_get done key)) (slice_get done sealed) t e
    (λ s found rest. option_and_then_some (body_of s) (slice_get done key) t rest
    (λ k found_key body. body_derives known s k t (h sealed s found) (h key k found_key) body))
conclusion_derives known done h (MacUp kind secret body) t e =
    option_and_then_some (λ p. option_map (digest kind p) (slice_get done body)) (slice_get done secret) t e
    (λ p found rest. option_map_some (digest kind p) (slice_get done body) t rest
    (λ b found_body same. subst (Derives known) same (by_digesting (h secret p found) (h body b found_body))))

-- what stands in a list with one more behind it
pub got_last : {A : Type 0} (done : List A) (t x : A) (index : ℕ) → slice_get (done ++ t ∷ []) index ≡ Some x → (slice_get done index ≡ Some x) ⊎ (t ≡ x)
got_last [] t x zero e = inr (Some_injective t x e)
got_last [] t x (suc index) e = absurd (cc)
got_last (d ∷ done) t x zero e = inl e
got_last (d ∷ done) t x (suc index) e = got_last done t x index e

one_more : (known done : List Tree) (t : Tree) → EachDerives known done → Derives known t → EachDerives known (done ++ t ∷ [])
one_more known done t h d index x e = elim (got_last done t x index e) [
  | inl before ↦ h index x before
  | inr last ↦ subst (Derives known) last d
]

all_derive : (known : List Tree) (steps : List ProofStep) (done ends : List Tree) → EachDerives known done → conclusions_after known done steps ≡ Some ends → EachDerives known ends
all_derive known [] done ends h e = subst (EachDerives known) (Some_injective done ends e) h
all_derive known (step ∷ steps) done ends h e =
    option_and_then_some (λ t. conclusions_after known (done ++ t ∷ []) steps) (conclusion known done step) ends e
    (λ t found rest. all_derive known steps (done ++ t ∷ []) ends (one_more known done t h (conclusion_derives known done h step t found)) rest)

pub conclusions_derive : (known ends : List Tree) (steps : List ProofStep) → conclusions known steps ≡ Some ends → EachDerives known ends
conclusions_derive known ends steps e = all_derive known steps [] ends (λ index t f. absurd (cc)) e
