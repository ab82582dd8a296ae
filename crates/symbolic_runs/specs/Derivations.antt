-- What follows from what is known, by the rules of the symbolic attacker (Dolev and Yao, 1983): it may join and take
-- apart, seal and digest with what it has, and open a seal whose key it has.
use Rattle.std.specs.Prelude.{◌≡◌, ℕ, List, [], ◌∷◌, ◌++◌, take, length, Option, Some, None, option_map, option_and_then, if◌then◌else◌}
use Rattle.std.specs.List.{slice_get}
use Rattle.symbolic_runs.specs.declared.proof.ProofStep.{ProofStep}
use Rattle.symbolic_runs.specs.declared.proof.ProofStep.TheVariants.{Known, Public, Join, Part, SealUp, OpenUp, MacUp}
use Rattle.symbolic_runs.specs.declared.kind.MacKind.{MacKind}
use Rattle.symbolic_runs.specs.Trees.{Tree, plain, joined, seal, digest, Trees, none, piece, piece_at, same_tree}

mutual
  pub data Derives (known : List Tree) : Tree → Type 0 where
    by_knowing : {t : Tree} (index : ℕ) → slice_get known index ≡ Some t → Derives known t
    in_public : (bytes : List ℕ) → Derives known (plain bytes)
    by_joining : {ts : Trees} → DerivesAll known ts → Derives known (joined ts)
    by_parting : {ts : Trees} {t : Tree} (index : ℕ) → piece_at ts index ≡ Some t → Derives known (joined ts)
        → Derives known t
    by_sealing : {k t : Tree} → Derives known k → Derives known t → Derives known (seal k t)
    by_opening : {k t : Tree} → Derives known (seal k t) → Derives known k → Derives known t
    by_digesting : {kind : MacKind} {p t : Tree} → Derives known p → Derives known t → Derives known (digest kind p t)

  pub data DerivesAll (known : List Tree) : Trees → Type 0 where
    each_none : DerivesAll known none
    each_piece : {t : Tree} {ts : Trees} → Derives known t → DerivesAll known ts → DerivesAll known (piece t ts)

-- A derivation written down step by step. What a step concludes, after these conclusions of the steps before it:

-- the pieces at these places
abbrev pub pieces_at : List Tree → List ℕ → Option Trees
pieces_at done [] = Some none
pieces_at done (place ∷ places) =
    option_and_then (λ t. option_map (piece t) (pieces_at done places)) (slice_get done place)

-- the piece of a joined tree
abbrev pub part_of : Tree → ℕ → Option Tree
part_of (joined ts) index = piece_at ts index
part_of t index = None

-- the body of a seal under this key
abbrev pub body_of : Tree → Tree → Option Tree
body_of (seal k t) key = if same_tree k key then Some t else None
body_of t key = None

abbrev pub conclusion : List Tree → List Tree → ProofStep → Option Tree
conclusion known done (Known index) = slice_get known index
conclusion known done (Public bytes) = Some (plain bytes)
conclusion known done (Join places) = option_map joined (pieces_at done places)
conclusion known done (Part of index) = option_and_then (λ t. part_of t index) (slice_get done of)
conclusion known done (SealUp key body) =
    option_and_then (λ k. option_map (seal k) (slice_get done body)) (slice_get done key)
conclusion known done (OpenUp sealed key) =
    option_and_then (λ s. option_and_then (body_of s) (slice_get done key)) (slice_get done sealed)
conclusion known done (MacUp kind secret body) =
    option_and_then (λ p. option_map (digest kind p) (slice_get done body)) (slice_get done secret)

-- the conclusions of all steps, behind those that stand already; none where a step's rule doesn't hold
abbrev pub conclusions_after : List Tree → List Tree → List ProofStep → Option (List Tree)
conclusions_after known done [] = Some done
conclusions_after known done (step ∷ steps) =
    option_and_then (λ t. conclusions_after known (done ++ t ∷ []) steps) (conclusion known done step)

abbrev pub conclusions : List Tree → List ProofStep → Option (List Tree)
conclusions known steps = conclusions_after known [] steps

-- these trees are what the steps conclude: one each, and each by its step's rule from those before it
pub record IsProof (known : List Tree) (steps : List ProofStep) (ends : List Tree) : Type 0 where
  pub one_each : length ends ≡ length steps
  pub each : (index : ℕ) (step : ProofStep) (t : Tree) → slice_get steps index ≡ Some step
      → slice_get ends index ≡ Some t → conclusion known (take index ends) step ≡ Some t
