-- Of the code alone: how words are read from the left. That terms and steps are so read as they are written is a law.
use Rattle.std.specs.Prelude.{ℕ, zero, suc, ◌^◌, List, [], ◌∷◌, Bool, true, ◌&&◌, nat_lt, Option, Some, None, option_map, codes, if◌then◌else◌}
use Rattle.std.specs.List.{find}
use Rattle.std.specs.Result.{result_ok}
use Rattle.std.specs.Str.{bytes_eq}
use Rattle.std.specs.Str.Parse.{digits_value}
use Rattle.std.specs.Fmt.{decimal}
use Rattle.hex.specs.Hex.{decode_of}
use Rattle.wire_base.specs.Texts.{is_text}
use Rattle.symbolic_runs.specs.declared.kind.MacKind.{MacKind}
use Rattle.symbolic_runs.specs.declared.kind.MacKind.TheVariants.{Apop, Cram}
use Rattle.symbolic_runs.specs.declared.proof.ProofStep.{ProofStep}
use Rattle.symbolic_runs.specs.declared.proof.ProofStep.TheVariants as p
use Rattle.symbolic_runs.specs.Trees.{Tree, is_atom, plain, nonce, challenge, long_key, ticket_key, junk_key, password, joined, seal, digest}
use Rattle.symbolic_runs.specs.Views.{trees_of}
use Rattle.trace_labels.specs.declared.terms.TermVerb.{TermVerb}
use Rattle.trace_labels.specs.declared.terms.TermVerb.TheVariants as t
use Rattle.trace_labels.specs.declared.steps.StepVerb.{StepVerb}
use Rattle.trace_labels.specs.declared.steps.StepVerb.TheVariants as s
use Rattle.trace_labels.specs.declared.terms.TheConstants.{MOST_DEEP}
use Rattle.trace_labels.specs.Words.{Word}
use Rattle.trace_labels.specs.Lines.{Line, compromised, holder, reading, label}
use Rattle.trace_labels.specs.Terms.{kind_word}
use Rattle.trace_labels.specs.Steps.{is_end}

-- one part and then another; a part that can't be read ends it
infixl 10 ◌>>=◌
abbrev pub ◌>>=◌ : {A B : Type 0} → Option A → (A → Option B) → Option B
(Some x) >>= f = f x
None >>= f = None

-- something, and the words behind it
abbrev pub Read : Type 0 → Type 0
Read A = List Word → Option (A × List Word)

abbrev pub one_by : {A : Type 0} → (Word → Option A) → Read A
one_by f [] = None
one_by f (word ∷ words) = option_map (λ a. (a, words)) (f word)

-- ---- words

abbrev pub number_of : Word → Option ℕ
number_of word =
    if nat_lt (digits_value 10 word) (2 ^ 32) && bytes_eq word (decimal (digits_value 10 word))
    then Some (digits_value 10 word)
    else None

abbrev pub digits_of : Word → Option (List ℕ)
digits_of [] = None
digits_of (b ∷ word) = result_ok (decode_of (b ∷ word))

abbrev pub hex_of : Word → Option (List ℕ)
hex_of word = if bytes_eq word (codes "-") then Some [] else digits_of word

abbrev pub text_in : List ℕ → Option (List ℕ)
text_in bytes = if is_text bytes then Some bytes else None

abbrev pub name_of : Word → Option (List ℕ)
name_of word = digits_of word >>= text_in

abbrev pub kinds : List MacKind
kinds = Apop ∷ Cram ∷ []

abbrev pub kind_of : Word → Option MacKind
kind_of word = find (λ kind. bytes_eq word (kind_word kind)) kinds

-- ---- terms

abbrev pub term_word : TermVerb → Word
term_word t.Pub = codes "pub"
term_word t.Nonce = codes "nonce"
term_word t.AsChal = codes "aschal"
term_word t.LKey = codes "lkey"
term_word t.SKey = codes "skey"
term_word t.Junk = codes "junk"
term_word t.Pw = codes "pw"
term_word t.Cat = codes "cat"
term_word t.Seal = codes "seal"
term_word t.Mac = codes "mac"

abbrev pub term_verbs : List TermVerb
term_verbs = t.Pub ∷ t.Nonce ∷ t.AsChal ∷ t.LKey ∷ t.SKey ∷ t.Junk ∷ t.Pw ∷ t.Cat ∷ t.Seal ∷ t.Mac ∷ []

abbrev pub term_verb_of : Word → Option TermVerb
term_verb_of word = find (λ verb. bytes_eq word (term_word verb)) term_verbs

-- an atom, by what one word says
abbrev pub atom_by : {A : Type 0} → (Word → Option A) → (A → Tree) → Read Tree
atom_by f make words = do
  said ← one_by f words
  Some (make said.0, said.1)

-- so many terms
abbrev pub terms_in : Read Tree → ℕ → Read (List Tree)
terms_in inner zero words = Some ([], words)
terms_in inner (suc n) words = do
  first ← inner words
  others ← terms_in inner n first.1
  Some (first.0 ∷ others.0, others.1)

abbrev pub cat_in : Read Tree → Read Tree
cat_in inner words = do
  many ← one_by number_of words
  terms ← terms_in inner many.0 many.1
  Some (joined (trees_of terms.0), terms.1)

abbrev pub seal_in : Read Tree → Read Tree
seal_in inner words = do
  key ← inner words
  body ← inner key.1
  Some (seal key.0 body.0, body.1)

abbrev pub mac_in : Read Tree → Read Tree
mac_in inner words = do
  kind ← one_by kind_of words
  secret ← inner kind.1
  text ← inner secret.1
  Some (digest kind.0 secret.0 text.0, text.1)

-- the term behind its own word, where the terms in it are read so
abbrev pub term_behind : Read Tree → TermVerb → Read Tree
term_behind inner t.Pub words = atom_by hex_of plain words
term_behind inner t.Nonce words = atom_by number_of nonce words
term_behind inner t.AsChal words = atom_by number_of challenge words
term_behind inner t.LKey words = atom_by name_of long_key words
term_behind inner t.SKey words = atom_by number_of ticket_key words
term_behind inner t.Junk words = atom_by number_of junk_key words
term_behind inner t.Pw words = atom_by name_of password words
term_behind inner t.Cat words = cat_in inner words
term_behind inner t.Seal words = seal_in inner words
term_behind inner t.Mac words = mac_in inner words

-- a term at most so deep
abbrev pub term_in : ℕ → Read Tree
term_in zero words = None
term_in (suc deep) words = do
  verb ← one_by term_verb_of words
  term_behind (term_in deep) verb.0 verb.1

-- ---- steps

abbrev pub step_word : StepVerb → Word
step_word s.Known = codes "known"
step_word s.Public = codes "public"
step_word s.Join = codes "join"
step_word s.Part = codes "part"
step_word s.Seal = codes "seal"
step_word s.Open = codes "open"
step_word s.Mac = codes "mac"

abbrev pub step_verbs : List StepVerb
step_verbs = s.Known ∷ s.Public ∷ s.Join ∷ s.Part ∷ s.Seal ∷ s.Open ∷ s.Mac ∷ []

abbrev pub step_verb_of : Word → Option StepVerb
step_verb_of word = find (λ verb. bytes_eq word (step_word verb)) step_verbs

-- a step ends at the end of the words, and before a `;`
abbrev pub ends_step : List Word → Bool
ends_step [] = true
ends_step (word ∷ words) = is_end word

-- numbers up to the end of a step
abbrev pub places_in : Read (List ℕ)
places_in [] = Some ([], [])
places_in (word ∷ words) =
    if is_end word then Some ([], word ∷ words)
    else (do
      place ← number_of word
      others ← places_in words
      Some (place ∷ others.0, others.1))

abbrev pub two_in : (ℕ → ℕ → ProofStep) → Read ProofStep
two_in make words = do
  first ← one_by number_of words
  second ← one_by number_of first.1
  Some (make first.0 second.0, second.1)

abbrev pub mac_step_in : Read ProofStep
mac_step_in words = do
  kind ← one_by kind_of words
  two_in (p.MacUp kind.0) kind.1

abbrev pub step_behind : StepVerb → Read ProofStep
step_behind s.Known words = do
  index ← one_by number_of words
  Some (p.Known index.0, index.1)
step_behind s.Public words = do
  bytes ← one_by hex_of words
  Some (p.Public bytes.0, bytes.1)
step_behind s.Join words = do
  places ← places_in words
  Some (p.Join places.0, places.1)
step_behind s.Part words = two_in p.Part words
step_behind s.Seal words = two_in p.SealUp words
step_behind s.Open words = two_in p.OpenUp words
step_behind s.Mac words = mac_step_in words

abbrev pub step_in : Read ProofStep
step_in words = do
  verb ← one_by step_verb_of words
  step_behind verb.0 verb.1

-- a step that ends behind its words
abbrev pub if_ended : ProofStep × List Word → Option (ProofStep × List Word)
if_ended read = if ends_step read.1 then Some read else None

abbrev pub whole_step_in : Read ProofStep
whole_step_in words = do
  read ← step_in words
  if_ended read

-- ---- lines

-- nothing is left behind it
abbrev pub ended : {A : Type 0} → A → List Word → Option A
ended a [] = Some a
ended a (word ∷ words) = None

abbrev pub atom_in : Tree → Option Tree
atom_in t = if is_atom t then Some t else None

abbrev pub compromised_in : List Word → Option Line
compromised_in words = do
  name ← one_by name_of words
  ended (compromised name.0) name.1

abbrev pub holder_in : List Word → Option Line
holder_in words = do
  conv ← one_by Some words
  name ← one_by name_of conv.1
  ended (holder conv.0 name.0) name.1

abbrev pub reading_in : List Word → Option Line
reading_in words = do
  term ← term_in MOST_DEEP words
  atom ← atom_in term.0
  bytes ← one_by hex_of term.1
  ended (reading atom bytes.0) bytes.1

abbrev pub label_in : List Word → Option Line
label_in words = do
  place ← one_by number_of words
  term ← term_in MOST_DEEP place.1
  ended (label place.0 term.0) term.1
