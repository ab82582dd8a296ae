-- What a text of labels tells of a step that takes bytes is what a clean history asks of its label.
use Rattle.std.proofs.Common.{◌≡◌, ℕ, zero, suc, ◌⊎◌, inl, inr, ◌<◌, slice_get, cond, List, [], ◌∷◌, ◌++◌, map, reverse, length, Bool, true, false, Option, Some, None, refl, sym, ap, subst, ◌∙◌, All}
use Rattle.std.specs.Prelude.{unwrap_or, ◌==◌}
use Rattle.std.proofs.lemmas.Bool.{eqb-true}
use Rattle.std.proofs.lemmas.List.{reverse-append}
use Rattle.std.proofs.lemmas.List.Elements.{All-from_get_or, All-nil}
use Rattle.hex.proofs.HexLemmas.{decode_of-ok}
use Rattle.symbolic_runs.specs.Trees.{Tree, plain, nonce, challenge, long_key, ticket_key, junk_key, password, joined, seal, digest, Trees, none, piece}
use Rattle.symbolic_runs.specs.Derivations.{Derives, by_knowing}
use Rattle.symbolic_runs.specs.Spellings.{Atoms}
use Rattle.symbolic_runs.specs.Runs.{Setting as Symbolic, Run, given, known}
use Rattle.symbolic_runs.proofs.Labels.{Each, each_append, each_at}
use Rattle.symbolic_runs.proofs.Parts.{derives_more}
use Rattle.trace_labels.specs.Words.{Word, IsHex, IsDigits}
use Rattle.trace_labels.specs.Terms.{IsTerm, AreTerms}
use Rattle.trace_labels.specs.Lines.{Line, compromised, holder, reading, label, proof, IsLine}
use Rattle.trace_labels.specs.Labels.{AreLines, AreLinesBehind}
use Rattle.trace_labels.proofs.Judging.{ends_derive}
use Rattle.wire_histories.specs.Histories.{History}
use Rattle.clean_runs.specs.Clean.{HoldsBytes, AllHoldBytes, IsLabelled}
use Rattle.clean_runs.specs.Runs.{run_from}
use Rattle.trace_runs.specs.Known.{known_in_order, secrets_of}
use Rattle.trace_runs.specs.Told.{IsTold, label_in, labelling_of}

-- ---- what is known

each_front : (P : Tree → Type 0) (xs ys : List Tree) → Each P (xs ++ ys) → Each P xs × Each P ys
each_front P [] ys each = (tt, each)
each_front P (x ∷ xs) ys each = let rest = each_front P xs ys each.1 in ((each.0, rest.0), rest.1)

each_from : (P : Tree → Type 0) (xs : List Tree) → ((index : ℕ) (t : Tree) → slice_get xs index ≡ Some t → P t) → Each P xs
each_from P [] h = tt
each_from P (x ∷ xs) h = (h zero x refl, each_from P xs (λ index t e. h (suc index) t e))

each_reversed : (P : Tree → Type 0) (ts : List Tree) → Each P ts → Each P (reverse ts)
each_reversed P [] each = tt
each_reversed P (t ∷ ts) each =
    subst (Each P) (sym (reverse-append (t ∷ []) ts)) (each_append P (reverse ts) (t ∷ []) (each_reversed P ts each.1) (each.0, tt))

each_secret : (P : Tree → Type 0) (names : List (List ℕ)) → Each P (map long_key names) → Each P (map password names) → Each P (secrets_of names)
each_secret P [] keys passwords = tt
each_secret P (name ∷ names) keys passwords = (keys.0, (passwords.0, each_secret P names keys.1 passwords.1))

each_in_order : (P : Tree → Type 0) (s : Symbolic) (run : Run) → Each P (known s run) → Each P (known_in_order s run)
each_in_order P s run each =
    let keys = each_front P (map long_key s.compromised) (map password s.compromised ++ given s run) each in
    let rest = each_front P (map password s.compromised) (given s run) keys.1 in
    each_append P (secrets_of s.compromised) (reverse (given s run)) (each_secret P s.compromised keys.0 rest.0) (each_reversed P (given s run) rest.1)

-- what follows from what is known in order follows from what is known
pub derives_in_order : (s : Symbolic) (run : Run) (t : Tree) → Derives (known_in_order s run) t → Derives (known s run) t
derives_in_order s run t d =
    derives_more (known_in_order s run) (known s run) (each_at (Derives (known s run)) (known_in_order s run) (each_in_order (Derives (known s run)) s run (each_from (Derives (known s run)) (known s run) (λ index t e. by_knowing index e)))) t d

-- ---- public parts are bytes

digits_bytes : (bytes : List ℕ) (word : Word) → IsDigits bytes word → All (λ n. n < 256) bytes
digits_bytes bytes word is = All-from_get_or (λ n. n < 256) bytes 0 (λ i _. (decode_of-ok word bytes is.1).3 i)

hex_bytes : (bytes : List ℕ) (word : Word) → IsHex bytes word → All (λ n. n < 256) bytes
hex_bytes bytes word (inl dash) = subst (All (λ n. n < 256)) (sym dash.1) (All-nil (λ n. n < 256))
hex_bytes bytes word (inr digits) = digits_bytes bytes word digits

mutual
  pub term_bytes : (t : Tree) (words : List Word) → IsTerm t words → HoldsBytes t
  term_bytes (plain bytes) words is = hex_bytes bytes is.0 is.2
  term_bytes (nonce number) words is = tt
  term_bytes (challenge number) words is = tt
  term_bytes (long_key name) words is = tt
  term_bytes (ticket_key number) words is = tt
  term_bytes (junk_key number) words is = tt
  term_bytes (password name) words is = tt
  term_bytes (joined ts) words is = terms_bytes ts is.0 is.3
  term_bytes (seal k t) words is = (term_bytes k is.0 is.3, term_bytes t is.1 is.4)
  term_bytes (digest kind p t) words is = (term_bytes p is.0 is.3, term_bytes t is.1 is.4)

  terms_bytes : (ts : Trees) (words : List Word) → AreTerms ts words → AllHoldBytes ts
  terms_bytes none words are = tt
  terms_bytes (piece t ts) words are = (term_bytes t are.0 are.3, terms_bytes ts are.1 are.4)

-- the label of a place holds bytes
abbrev LabelHolds : Option Tree → Type 0
LabelHolds None = Unit {0}
LabelHolds (Some t) = HoldsBytes t

label_by : (wanted place : ℕ) (t : Tree) (rest : Option Tree) → HoldsBytes t → LabelHolds rest → (so : Bool) → LabelHolds (cond so (Some t) rest)
label_by wanted place t rest now later true = now
label_by wanted place t rest now later false = later

labels_hold : (wanted : ℕ) (before : List Line) (texts : List (List ℕ)) (lines : List Line) → AreLinesBehind before texts lines → LabelHolds (label_in wanted lines)
labels_hold wanted before [] [] are = tt
labels_hold wanted before [] (line ∷ lines) are = absurd are
labels_hold wanted before (text ∷ texts) [] are = absurd are
labels_hold wanted before (text ∷ texts) (compromised name ∷ lines) are = labels_hold wanted (before ++ compromised name ∷ []) texts lines are.2
labels_hold wanted before (text ∷ texts) (holder conv name ∷ lines) are = labels_hold wanted (before ++ holder conv name ∷ []) texts lines are.2
labels_hold wanted before (text ∷ texts) (reading atom bytes ∷ lines) are = labels_hold wanted (before ++ reading atom bytes ∷ []) texts lines are.2
labels_hold wanted before (text ∷ texts) (label place t ∷ lines) are =
    label_by wanted place t (label_in wanted lines) (term_bytes t are.0.2.0 are.0.2.3) (labels_hold wanted (before ++ label place t ∷ []) texts lines are.2) (place == wanted)
labels_hold wanted before (text ∷ texts) (proof place steps ∷ lines) are = labels_hold wanted (before ++ proof place steps ∷ []) texts lines are.2

-- ---- the label

-- what is told of a step is what is asked of its label
pub told_is_labelled : (atoms : Atoms) (s : Symbolic) (texts : List (List ℕ)) (lines : List Line) (past : History) (b : List ℕ) → AreLines texts lines → IsTold atoms s lines past b → IsLabelled atoms s (labelling_of lines) past b
told_is_labelled atoms s texts lines past b are told =
    let own : unwrap_or (label_in (length past) lines) (plain []) ≡ told.own = ap (λ (o : Option Tree). unwrap_or o (plain [])) told.labelled in
    record {
      of_bytes = subst HoldsBytes (sym own) (subst LabelHolds told.labelled (labels_hold (length past) [] texts lines are));
      spells = rw own told.judged.spells;
      derives = subst (Derives (known s (run_from s (labelling_of lines) past))) (sym own)
          (derives_in_order s (run_from s (labelling_of lines) past) told.own
          (ends_derive (known_in_order s (run_from s (labelling_of lines) past)) told.steps told.own told.judged.derived));
    }
