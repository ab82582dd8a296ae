-- The labelling that a text of labels gives, and which of the steps that take bytes have a label that is told and
-- holds.
use Rattle.std.specs.Prelude.{◌≡◌, ℕ, ◌==◌, List, [], ◌∷◌, length, Option, Some, None, unwrap_or, if◌then◌else◌}
use Rattle.symbolic_runs.specs.declared.proof.ProofStep.{ProofStep}
use Rattle.symbolic_runs.specs.Trees.{Tree, plain}
use Rattle.symbolic_runs.specs.Spellings.{Atoms}
use Rattle.symbolic_runs.specs.Runs.{Setting as Symbolic}
use Rattle.trace_labels.specs.Lines.{Line, compromised, holder, reading, label, proof}
use Rattle.trace_labels.specs.Judged.{IsJudged}
use Rattle.wire_histories.specs.Histories.{History}
use Rattle.clean_runs.specs.Labels.{Labelling}
use Rattle.clean_runs.specs.Runs.{run_from}
use Rattle.trace_runs.specs.Known.{known_in_order}
use Rattle.trace_runs.specs.Readings.{holder_in}

-- the compromised key names, in the order of the lines
abbrev pub compromised_in : List Line → List (List ℕ)
compromised_in [] = []
compromised_in (compromised name ∷ lines) = name ∷ compromised_in lines
compromised_in (holder conv name ∷ lines) = compromised_in lines
compromised_in (reading atom bytes ∷ lines) = compromised_in lines
compromised_in (label place t ∷ lines) = compromised_in lines
compromised_in (proof place steps ∷ lines) = compromised_in lines

-- the label of a place, and its derivation, if a line gives one
abbrev pub label_in : ℕ → List Line → Option Tree
label_in wanted [] = None
label_in wanted (compromised name ∷ lines) = label_in wanted lines
label_in wanted (holder conv name ∷ lines) = label_in wanted lines
label_in wanted (reading atom bytes ∷ lines) = label_in wanted lines
label_in wanted (label place t ∷ lines) = if place == wanted then Some t else label_in wanted lines
label_in wanted (proof place steps ∷ lines) = label_in wanted lines

abbrev pub proof_in : ℕ → List Line → Option (List ProofStep)
proof_in wanted [] = None
proof_in wanted (compromised name ∷ lines) = proof_in wanted lines
proof_in wanted (holder conv name ∷ lines) = proof_in wanted lines
proof_in wanted (reading atom bytes ∷ lines) = proof_in wanted lines
proof_in wanted (label place t ∷ lines) = proof_in wanted lines
proof_in wanted (proof place steps ∷ lines) = if place == wanted then Some steps else proof_in wanted lines

-- where no line gives a holder he has no name, and where none gives a label it is the empty message
abbrev pub labelling_of : List Line → Labelling
labelling_of lines = record {
  compromised = compromised_in lines;
  holder = λ conv. unwrap_or (holder_in conv lines) [];
  label = λ place. unwrap_or (label_in place lines) (plain []);
}

-- the step behind a past, which takes these bytes, has a label and a derivation; the label spells the bytes, and the
-- derivation concludes it from what is known at its place
pub record IsTold (atoms : Atoms) (s : Symbolic) (lines : List Line) (past : History) (b : List ℕ) : Type 0 where
  pub own : Tree
  pub labelled : label_in (length past) lines ≡ Some own
  pub steps : List ProofStep
  pub derived : proof_in (length past) lines ≡ Some steps
  pub judged : IsJudged atoms (known_in_order s (run_from s (labelling_of lines) past)) steps own b
