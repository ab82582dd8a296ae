-- Lines are read as they are written, and nothing else is read as them.
use Rattle.std.proofs.Common.{◌≡◌, ℕ, ◌≤◌, List, [], ◌∷◌, ◌++◌, true, Option, Some, None, Result, Ok, Err, IfOk, refl, sym, ap, ap₂, ◌∙◌, append-nil, arith, subst, bytes_eq}
use Rattle.std.specs.Fmt.{decimal}
use Rattle.std.proofs.lemmas.Slice.Eq.{bytes_eq-Decides}
use Rattle.symbolic_runs.specs.Trees.{Tree, is_atom, plain, nonce, challenge, long_key, ticket_key, junk_key, password, joined, seal, digest}
use Rattle.trace_labels.specs.declared.terms.TheConstants.{MOST_DEEP}
use Rattle.trace_labels.specs.declared.line.LabelLine.{LabelLine}
use Rattle.trace_labels.specs.declared.line.Verb.{Verb}
use Rattle.trace_labels.specs.declared.line.Verb.TheVariants as v
use Rattle.trace_labels.specs.declared.unread.Unread.{Unread}
use Rattle.trace_labels.specs.declared.unread.Unread.TheVariants.{BadForm}
use Rattle.trace_labels.specs.Words.{Word, IsSmall, IsHex, IsKeyName, words_of}
use Rattle.trace_labels.specs.Terms.{IsTerm, depth}
use Rattle.trace_labels.specs.Lines.{Line, compromised, holder, reading, label, proof, first_word, IsRest, IsWords, IsLine}
use Rattle.trace_labels.specs.Reading.{◌>>=◌, one_by, ended, atom_in, number_of, hex_of, name_of, term_in, compromised_in, holder_in, reading_in, label_in}
use Rattle.trace_labels.specs.Said.{said, verb_word, verbs, verb_of, verb_in, IsRead}
use Rattle.trace_labels.proofs.Parts.{beside, same_some, bind_parts, if_parts, one_parts, find_parts}
use Rattle.trace_labels.proofs.Numbers.{number_again, number_parts}
use Rattle.trace_labels.proofs.Said.{hex_parts, hex_again, name_parts, name_again}
use Rattle.trace_labels.proofs.TermLaws.{term_parts, whole_again}

-- ---- what was read is written so

ended_parts : {A : Type 0} (a b : A) (words : List Word) → ended a words ≡ Some b → (a ≡ b) × (words ≡ [])
ended_parts a b [] h = (same_some a b h, refl)
ended_parts a b (word ∷ words) h = absurd cc

-- a line that was read has this verb, and its words
abbrev pub Stands : Verb → List Word → Line → Type 0
Stands verb words line = (verb_in line ≡ verb) × IsRest line words

pub compromised_parts : (words : List Word) (line : Line) → compromised_in words ≡ Some line → Stands v.Compromised words line
compromised_parts words line h =
    let name = bind_parts (one_by name_of words) _ line h in
    let last = ended_parts (compromised name.0.0) line name.0.1 name.2 in
    let word = one_parts name_of words name.0.1 name.0.0 name.1 in
    subst (Stands v.Compromised words) last.0 (refl, (word.0, word.1 ∙ ap (λ ws. word.0 ∷ ws) last.1, name_parts word.0 name.0.0 word.2))

pub holder_parts : (words : List Word) (line : Line) → holder_in words ≡ Some line → Stands v.Holder words line
holder_parts words line h =
    let conv = bind_parts (one_by Some words) _ line h in
    let name = bind_parts (one_by name_of conv.0.1) _ line conv.2 in
    let last = ended_parts (holder conv.0.0 name.0.0) line name.0.1 name.2 in
    let first = one_parts Some words conv.0.1 conv.0.0 conv.1 in
    let word = one_parts name_of conv.0.1 name.0.1 name.0.0 name.1 in
    subst (Stands v.Holder words) last.0 (
      refl,
      (word.0, first.1 ∙ ap₂ (λ w ws. w ∷ ws) (same_some first.0 conv.0.0 first.2) (word.1 ∙ ap (λ ws. word.0 ∷ ws) last.1), name_parts word.0 name.0.0 word.2),
    )

pub reading_parts : (words : List Word) (line : Line) → reading_in words ≡ Some line → Stands v.Reading words line
reading_parts words line h =
    let term = bind_parts (term_in MOST_DEEP words) _ line h in
    let atom = bind_parts (atom_in term.0.0) _ line term.2 in
    let said_bytes = bind_parts (one_by hex_of term.0.1) _ line atom.2 in
    let last = ended_parts (reading atom.0 said_bytes.0.0) line said_bytes.0.1 said_bytes.2 in
    let stands = term_parts MOST_DEEP words term.0.1 term.0.0 term.1 in
    let is = if_parts (is_atom term.0.0) term.0.0 atom.0 atom.1 in
    let word = one_parts hex_of term.0.1 said_bytes.0.1 said_bytes.0.0 said_bytes.1 in
    subst (Stands v.Reading words) last.0 (
      refl,
      (stands.0, word.0, stands.1 ∙ ap (λ ws. stands.0 ++ ws) (word.1 ∙ ap (λ ws. word.0 ∷ ws) last.1), subst (λ t. IsTerm t stands.0) is.1 stands.2, ap is_atom (sym is.1) ∙ is.0, hex_parts word.0 said_bytes.0.0 word.2),
    )

pub label_parts : (words : List Word) (line : Line) → label_in words ≡ Some line → Stands v.Label words line
label_parts words line h =
    let place = bind_parts (one_by number_of words) _ line h in
    let term = bind_parts (term_in MOST_DEEP place.0.1) _ line place.2 in
    let last = ended_parts (label place.0.0 term.0.0) line term.0.1 term.2 in
    let word = one_parts number_of words place.0.1 place.0.0 place.1 in
    let number = number_parts word.0 place.0.0 word.2 in
    let stands = term_parts MOST_DEEP place.0.1 term.0.1 term.0.0 term.1 in
    subst (Stands v.Label words) last.0 (
      refl,
      (stands.0, word.1 ∙ ap₂ (λ w ws. w ∷ ws) number.0 (stands.1 ∙ ap (λ ws. stands.0 ++ ws) last.1 ∙ append-nil stands.0), number.1, stands.2, stands.3),
    )

-- ---- what is written is read so

abbrev Again : Verb → (List Word → Option Line) → Type 0
Again verb reads = (words : List Word) (line : Line) → verb_in line ≡ verb → IsRest line words → reads words ≡ Some line

name_ended : (make : List ℕ → Line) (name : List ℕ) (word : Word) → IsKeyName name word → (one_by name_of (word ∷ []) >>= λ n. ended (make n.0) n.1) ≡ Some (make name)
name_ended make name word says = rw (name_again word name says) refl

compromised_again : Again v.Compromised compromised_in
compromised_again words (compromised name) e (word, whole, says) = rw whole (name_ended compromised name word says)
compromised_again words (holder conv name) e h = absurd cc
compromised_again words (reading atom bytes) e h = absurd cc
compromised_again words (label place t) e h = absurd cc
compromised_again words (proof place steps) e h = absurd cc

holder_again : Again v.Holder holder_in
holder_again words (holder conv name) e (word, whole, says) = rw whole (name_ended (holder conv) name word says)
holder_again words (compromised name) e h = absurd cc
holder_again words (reading atom bytes) e h = absurd cc
holder_again words (label place t) e h = absurd cc
holder_again words (proof place steps) e h = absurd cc

atom_deep : (t : Tree) → is_atom t ≡ true → depth t ≤ MOST_DEEP
atom_deep (plain b) h = absurd cc
atom_deep (nonce n) h = omega arith
atom_deep (challenge n) h = omega arith
atom_deep (long_key n) h = omega arith
atom_deep (ticket_key n) h = omega arith
atom_deep (junk_key n) h = omega arith
atom_deep (password n) h = omega arith
atom_deep (joined ts) h = absurd cc
atom_deep (seal k t) h = absurd cc
atom_deep (digest kind p t) h = absurd cc

reading_ended : (words front : List Word) (t : Tree) (word : Word) (bytes : List ℕ) → words ≡ front ++ word ∷ [] → IsTerm t front → is_atom t ≡ true → IsHex bytes word → reading_in words ≡ Some (reading t bytes)
reading_ended words front t word bytes whole term atom says =
    let read : term_in MOST_DEEP words ≡ Some (beside t (word ∷ [])) = ap (term_in MOST_DEEP) whole ∙ whole_again t MOST_DEEP front (word ∷ []) (atom_deep t atom) term in
    rw (read, atom, hex_again word bytes says) refl

reading_again : Again v.Reading reading_in
reading_again words (reading atom bytes) e (front, word, whole, term, is, says) = reading_ended words front atom word bytes whole term is says
reading_again words (compromised name) e h = absurd cc
reading_again words (holder conv name) e h = absurd cc
reading_again words (label place t) e h = absurd cc
reading_again words (proof place steps) e h = absurd cc

label_ended : (words front : List Word) (place : ℕ) (t : Tree) → words ≡ decimal place ∷ front → IsSmall place → IsTerm t front → depth t ≤ MOST_DEEP → label_in words ≡ Some (label place t)
label_ended words front place t whole small term deep =
    let number : number_of (decimal place) ≡ Some place = number_again place (decimal place) small refl in
    let read : term_in MOST_DEEP front ≡ Some (beside t []) = ap (term_in MOST_DEEP) (sym (append-nil front)) ∙ whole_again t MOST_DEEP front [] deep term in
    rw (whole, number, read) refl

label_again : Again v.Label label_in
label_again words (label place t) e (front, whole, small, term, deep) = label_ended words front place t whole small term deep
label_again words (compromised name) e h = absurd cc
label_again words (holder conv name) e h = absurd cc
label_again words (reading atom bytes) e h = absurd cc
label_again words (proof place steps) e h = absurd cc

-- ---- what the code reads by the first word

abbrev Never : Verb → List Word → Type 0
Never verb words = (line : Line) → verb_in line ≡ verb → IsRest line words → ⊥

never_by : (verb : Verb) (reads : List Word → Option Line) → Again verb reads → (words : List Word) → reads words ≡ None → Never verb words
never_by verb reads again words none line e h = let found : None ≡ Some line = sym none ∙ again words line e h in absurd cc

read_by : (verb : Verb) (reads : List Word → Option Line) → ((words : List Word) (line : Line) → reads words ≡ Some line → Stands verb words line) → Again verb reads → (words : List Word) (result : Result LabelLine Unread) → IfOk result (λ line. reads words ≡ Some (said line)) → (result ≡ Err BadForm → reads words ≡ None) → IsRead verb words result
read_by verb reads parts again words (Ok line) ok bad = record {
  kind = (parts words (said line) ok).0;
  rest = (parts words (said line) ok).1;
  bad = λ e. absurd cc;
}
read_by verb reads parts again words (Err fault) ok bad = record { kind = tt; rest = tt; bad = λ e. never_by verb reads again words (bad e) }

pub compromised_read : (words : List Word) (result : Result LabelLine Unread) → IfOk result (λ line. compromised_in words ≡ Some (said line)) → (result ≡ Err BadForm → compromised_in words ≡ None) → IsRead v.Compromised words result
compromised_read = read_by v.Compromised compromised_in compromised_parts compromised_again

pub holder_read : (words : List Word) (result : Result LabelLine Unread) → IfOk result (λ line. holder_in words ≡ Some (said line)) → (result ≡ Err BadForm → holder_in words ≡ None) → IsRead v.Holder words result
holder_read = read_by v.Holder holder_in holder_parts holder_again

pub reading_read : (words : List Word) (result : Result LabelLine Unread) → IfOk result (λ line. reading_in words ≡ Some (said line)) → (result ≡ Err BadForm → reading_in words ≡ None) → IsRead v.Reading words result
reading_read = read_by v.Reading reading_in reading_parts reading_again

pub label_read : (words : List Word) (result : Result LabelLine Unread) → IfOk result (λ line. label_in words ≡ Some (said line)) → (result ≡ Err BadForm → label_in words ≡ None) → IsRead v.Label words result
label_read = read_by v.Label label_in label_parts label_again

-- ---- a whole line

line_word : (line : Line) → first_word line ≡ verb_word (verb_in line)
line_word (compromised name) = refl
line_word (holder conv name) = refl
line_word (reading atom bytes) = refl
line_word (label place t) = refl
line_word (proof place steps) = refl

verb_again : (verb : Verb) → verb_of (verb_word verb) ≡ Some verb
verb_again v.Compromised = refl
verb_again v.Holder = refl
verb_again v.Reading = refl
verb_again v.Label = refl
verb_again v.Proof = refl

verb_parts : (word : Word) (verb : Verb) → verb_of word ≡ Some verb → word ≡ verb_word verb
verb_parts word verb h = (bytes_eq-Decides word (verb_word verb)).0 (find_parts (λ v. bytes_eq word (verb_word v)) verbs verb h)

abbrev tail_of : List Word → List Word
tail_of [] = []
tail_of (word ∷ words) = words

abbrev head_of : List Word → Word
head_of [] = []
head_of (word ∷ words) = word

-- the words of a line begin with its verb
begins : (line : Line) (word : Word) (rest : List Word) → IsWords line (word ∷ rest) → (verb_of word ≡ Some (verb_in line)) × IsRest line rest
begins line word rest (more, whole, said_rest) =
    let first : word ≡ first_word line = ap head_of whole in
    let same : rest ≡ more = ap tail_of whole in
    (ap verb_of (first ∙ line_word line) ∙ verb_again (verb_in line), subst (IsRest line) (sym same) said_rest)

pub line_read : (verb : Verb) (text : List ℕ) (word : Word) (rest : List Word) (result : Result LabelLine Unread) → words_of text ≡ word ∷ rest → verb_of word ≡ Some verb → IsRead verb rest result → IfOk result (λ line. IsLine (said line) text)
line_read verb text word rest (Err fault) whole found read = tt
line_read verb text word rest (Ok line) whole found read =
    let first : word ≡ first_word (said line) = verb_parts word verb found ∙ ap verb_word (sym read.kind) ∙ sym (line_word (said line)) in
    (rest, whole ∙ ap (λ w. w ∷ rest) first, read.rest)

pub line_not_read : (verb : Verb) (text : List ℕ) (word : Word) (rest : List Word) (result : Result LabelLine Unread) → words_of text ≡ word ∷ rest → verb_of word ≡ Some verb → IsRead verb rest result → result ≡ Err BadForm → (line : Line) → IsLine line text → ⊥
line_not_read verb text word rest result whole found read e line is =
    let parts = begins line word rest (subst (IsWords line) whole is) in
    read.bad e line (same_some (verb_in line) verb (sym parts.0 ∙ found)) parts.1

pub no_verb : (text : List ℕ) (word : Word) (rest : List Word) → words_of text ≡ word ∷ rest → verb_of word ≡ None → (line : Line) → IsLine line text → ⊥
no_verb text word rest whole missing line is =
    let parts = begins line word rest (subst (IsWords line) whole is) in
    let found : None ≡ Some (verb_in line) = sym missing ∙ parts.0 in cc

pub no_word : (text : List ℕ) → words_of text ≡ [] → (line : Line) → IsLine line text → ⊥
no_word text none_left line is = let whole : [] ≡ first_word line ∷ is.0 = sym none_left ∙ is.1 in cc

never_proof : (words : List Word) → one_by number_of words ≡ None → Never v.Proof words
never_proof words missing (proof place steps) e (front, whole, small, text) =
    let read : number_of (decimal place) ≡ Some place = number_again place (decimal place) small refl in
    let found : one_by number_of (decimal place ∷ front) ≡ Some (beside place front) = rw read refl in
    let both : None ≡ Some (beside place front) = sym missing ∙ ap (one_by number_of) whole ∙ found in
    absurd cc
never_proof words missing (compromised name) e h = absurd cc
never_proof words missing (holder conv name) e h = absurd cc
never_proof words missing (reading atom bytes) e h = absurd cc
never_proof words missing (label place t) e h = absurd cc

pub derivation_missing : (words : List Word) (result : Result LabelLine Unread) (fault : Unread) → result ≡ Err fault → one_by number_of words ≡ None → IsRead v.Proof words result
derivation_missing words result fault is missing =
    subst (IsRead v.Proof words) (sym is) (record { kind = tt; rest = tt; bad = λ e. never_proof words missing })
