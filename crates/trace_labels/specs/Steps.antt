-- How a derivation is written: its steps, with a word `;` between each two. The form is this project's.
use Rattle.std.specs.Prelude.{◌≡◌, ℕ, List, [], ◌∷◌, Bool, map, codes}
use Rattle.std.specs.List.{slice_split}
use Rattle.std.specs.Fmt.{decimal}
use Rattle.std.specs.Str.{bytes_eq}
use Rattle.symbolic_runs.specs.declared.proof.ProofStep.{ProofStep}
use Rattle.symbolic_runs.specs.declared.proof.ProofStep.TheVariants.{Known, Public, Join, Part, SealUp, OpenUp, MacUp}
use Rattle.trace_labels.specs.Words.{Word, IsSmall, IsHex}
use Rattle.trace_labels.specs.Terms.{kind_word}

abbrev pub AreSmall : List ℕ → Type 0
AreSmall [] = Unit {0}
AreSmall (number ∷ numbers) = IsSmall number × AreSmall numbers

-- these words are the step
abbrev pub IsStep : ProofStep → List Word → Type 0
IsStep (Known index) words = (words ≡ codes "known" ∷ decimal index ∷ []) × IsSmall index
IsStep (Public bytes) words = (word : Word) × (words ≡ codes "public" ∷ word ∷ []) × IsHex bytes word
IsStep (Join places) words = (words ≡ codes "join" ∷ map decimal places) × AreSmall places
IsStep (Part of index) words =
    (words ≡ codes "part" ∷ decimal of ∷ decimal index ∷ []) × IsSmall of × IsSmall index
IsStep (SealUp key body) words =
    (words ≡ codes "seal" ∷ decimal key ∷ decimal body ∷ []) × IsSmall key × IsSmall body
IsStep (OpenUp sealed key) words =
    (words ≡ codes "open" ∷ decimal sealed ∷ decimal key ∷ []) × IsSmall sealed × IsSmall key
IsStep (MacUp kind secret body) words =
    (words ≡ codes "mac" ∷ kind_word kind ∷ decimal secret ∷ decimal body ∷ []) × IsSmall secret × IsSmall body

-- each of these is the words of a step
abbrev pub AreSteps : List ProofStep → List (List Word) → Type 0
AreSteps [] [] = Unit {0}
AreSteps (step ∷ steps) (words ∷ more) = IsStep step words × AreSteps steps more
AreSteps steps parts = ⊥

abbrev pub is_end : Word → Bool
is_end word = bytes_eq word (codes ";")

-- these words are the derivation: at least one step
abbrev pub IsProofText : List ProofStep → List Word → Type 0
IsProofText steps words = AreSteps steps (slice_split is_end words)
