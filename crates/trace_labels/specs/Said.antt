-- What a line that was read says; and, of the code alone, how it is read by its first word.
use Rattle.std.specs.Prelude.{◌≡◌, List, [], ◌∷◌, Option, Result, Err, IfOk, codes}
use Rattle.std.specs.List.{find}
use Rattle.std.specs.Str.{bytes_eq}
use Rattle.symbolic_runs.specs.Views.{tree}
use Rattle.trace_labels.specs.declared.line.LabelLine.{LabelLine}
use Rattle.trace_labels.specs.declared.line.LabelLine.TheVariants.{Compromised, Holder, Reading, Label, Proof}
use Rattle.trace_labels.specs.declared.line.Verb.{Verb}
use Rattle.trace_labels.specs.declared.line.Verb.TheVariants as v
use Rattle.trace_labels.specs.declared.unread.Unread.{Unread}
use Rattle.trace_labels.specs.declared.unread.Unread.TheVariants.{BadForm}
use Rattle.trace_labels.specs.Words.{Word}
use Rattle.trace_labels.specs.Lines.{Line, compromised, holder, reading, label, proof, IsRest}

abbrev pub said : LabelLine → Line
said (Compromised name) = compromised name
said (Holder conv name) = holder conv name
said (Reading atom bytes) = reading (tree atom) bytes
said (Label place term) = label place (tree term)
said (Proof place steps) = proof place steps

-- ---- of the code alone

abbrev pub verb_word : Verb → Word
verb_word v.Compromised = codes "compromised"
verb_word v.Holder = codes "holder"
verb_word v.Reading = codes "reading"
verb_word v.Label = codes "label"
verb_word v.Proof = codes "proof"

abbrev pub verbs : List Verb
verbs = v.Compromised ∷ v.Holder ∷ v.Reading ∷ v.Label ∷ v.Proof ∷ []

abbrev pub verb_of : Word → Option Verb
verb_of word = find (λ verb. bytes_eq word (verb_word verb)) verbs

abbrev pub verb_in : Line → Verb
verb_in (compromised name) = v.Compromised
verb_in (holder conv name) = v.Holder
verb_in (reading atom bytes) = v.Reading
verb_in (label place t) = v.Label
verb_in (proof place steps) = v.Proof

-- a line of a verb was read of the words behind it, or there is none
pub record IsRead (verb : Verb) (words : List Word) (result : Result LabelLine Unread) : Type 0 where
  pub kind : IfOk result (λ line. verb_in (said line) ≡ verb)
  pub rest : IfOk result (λ line. IsRest (said line) words)
  pub bad : result ≡ Err BadForm → (line : Line) → verb_in line ≡ verb → IsRest line words → ⊥
