-- The lines of a text of labels: which key names are compromised, whose key a conversation has, what bytes a reading
-- gives an atom, the label of a step that takes bytes, and a derivation of that label. The form is this project's.
use Rattle.std.specs.Prelude.{◌≡◌, ℕ, ◌≤◌, List, [], ◌∷◌, ◌++◌, true, codes}
use Rattle.std.specs.Fmt.{decimal}
use Rattle.symbolic_runs.specs.declared.proof.ProofStep.{ProofStep}
use Rattle.symbolic_runs.specs.Trees.{Tree, is_atom}
use Rattle.trace_labels.specs.declared.terms.TheConstants.{MOST_DEEP}
use Rattle.trace_labels.specs.Words.{Word, IsSmall, IsHex, IsKeyName, words_of}
use Rattle.trace_labels.specs.Terms.{IsTerm, depth}
use Rattle.trace_labels.specs.Steps.{IsProofText}

pub data Line : Type 0 where
  compromised : (name : List ℕ) → Line
  holder : (conv name : List ℕ) → Line
  reading : (atom : Tree) (bytes : List ℕ) → Line
  label : (place : ℕ) (t : Tree) → Line
  proof : (place : ℕ) (steps : List ProofStep) → Line

abbrev pub first_word : Line → Word
first_word (compromised name) = codes "compromised"
first_word (holder conv name) = codes "holder"
first_word (reading atom bytes) = codes "reading"
first_word (label place t) = codes "label"
first_word (proof place steps) = codes "proof"

-- these words stand behind the first
abbrev pub IsRest : Line → List Word → Type 0
IsRest (compromised name) words = (word : Word) × (words ≡ word ∷ []) × IsKeyName name word
IsRest (holder conv name) words = (word : Word) × (words ≡ conv ∷ word ∷ []) × IsKeyName name word
IsRest (reading atom bytes) words = (front : List Word) × (word : Word) × (words ≡ front ++ word ∷ [])
    × IsTerm atom front × (is_atom atom ≡ true) × IsHex bytes word
IsRest (label place t) words = (term : List Word) × (words ≡ decimal place ∷ term) × IsSmall place
    × IsTerm t term × (depth t ≤ MOST_DEEP)
IsRest (proof place steps) words = (derivation : List Word) × (words ≡ decimal place ∷ derivation) × IsSmall place
    × IsProofText steps derivation

abbrev pub IsWords : Line → List Word → Type 0
IsWords line words = (rest : List Word) × (words ≡ first_word line ∷ rest) × IsRest line rest

-- this text is the line
abbrev pub IsLine : Line → List ℕ → Type 0
IsLine line text = IsWords line (words_of text)
