-- Steps are read as they are written, and nothing else is read as them.
use Rattle.std.proofs.Common.{◌≡◌, ℕ, ◌<◌, List, [], ◌∷◌, ◌++◌, Bool, true, false, cond, map, codes, length, length-append, Option, Some, None, option_map, refl, sym, ap, ap₂, ◌∙◌, append_assoc, append-nil, arith, subst, bytes_eq, inl, inr}
use Rattle.std.specs.List.{slice_split, onto_first}
use Rattle.std.specs.Fmt.{decimal}
use Rattle.std.proofs.lemmas.Bool.{cases_Bool}
use Rattle.std.specs.Str.Parse.{IsNumeral}
use Rattle.std.proofs.lemmas.Fmt.{decimal_is_IsNumeral}
use Rattle.std.proofs.lemmas.List.Splits.{slice_split-cons_yes, slice_split-cons_no}
use Rattle.std.proofs.lemmas.Slice.Eq.{bytes_eq-Decides}
use Rattle.symbolic_runs.specs.declared.kind.MacKind.{MacKind}
use Rattle.symbolic_runs.specs.declared.kind.MacKind.TheVariants.{Apop, Cram}
use Rattle.symbolic_runs.specs.declared.proof.ProofStep.{ProofStep}
use Rattle.symbolic_runs.specs.declared.proof.ProofStep.TheVariants.{Known, Public, Join, Part, SealUp, OpenUp, MacUp}
use Rattle.trace_labels.specs.declared.steps.StepVerb.{StepVerb}
use Rattle.trace_labels.specs.declared.steps.StepVerb.TheVariants as v
use Rattle.trace_labels.specs.Words.{Word, IsSmall, IsHex}
use Rattle.trace_labels.specs.Terms.{kind_word}
use Rattle.trace_labels.specs.Steps.{IsStep, AreSmall, AreSteps, IsProofText, is_end}
use Rattle.trace_labels.specs.Left.{is_over}
use Rattle.trace_labels.specs.Reading.{◌>>=◌, one_by, number_of, hex_of, kind_of, ends_step, if_ended, mac_step_in, places_in, step_behind, step_in, step_verb_of, step_verbs, step_word, two_in, whole_step_in}
use Rattle.trace_labels.proofs.Parts.{beside, bind_parts, if_parts, one_parts, find_parts, some_pair}
use Rattle.trace_labels.proofs.Numbers.{number_again, number_parts}
use Rattle.trace_labels.proofs.Said.{hex_parts, hex_again, kind_parts, kind_again}

abbrev head_of : List Word → Word
head_of [] = []
head_of (word ∷ words) = word

abbrev tail_of : List Word → List Word
tail_of [] = []
tail_of (word ∷ words) = words

missing_by : {A : Type 0} (o : Option A) (words : List Word) → option_map {U = A × List Word} (λ a. (a, words)) o ≡ None → o ≡ None
missing_by None words h = refl
missing_by (Some a) words h = absurd cc

no_number : (word : Word) (words : List Word) → one_by number_of (word ∷ words) ≡ None → number_of word ≡ None
no_number word words h = missing_by (number_of word) words h

-- ---- what was read is written so

abbrev Stands : List Word → List Word → ProofStep → Type 0
Stands words rest step = (front : List Word) × (words ≡ front ++ rest) × IsStep step front

places_by : (word : Word) (words rest : List Word) (ps : List ℕ) (t : Bool) → ((others : List ℕ) → places_in words ≡ Some (others, rest) → (words ≡ map decimal others ++ rest) × AreSmall others) → cond {A = Option (List ℕ × List Word)} t (Some ([], word ∷ words)) (number_of word >>= λ place. places_in words >>= λ others. Some (place ∷ others.0, others.1)) ≡ Some (ps, rest) → (word ∷ words ≡ map decimal ps ++ rest) × AreSmall ps
places_by word words rest ps true more h =
    let both = some_pair [] ps (word ∷ words) rest h in
    subst (λ xs. (word ∷ words ≡ map decimal xs ++ rest) × AreSmall xs) both.0 (both.1, tt)
places_by word words rest ps false more h =
    let place = bind_parts (number_of word) _ (ps, rest) h in
    let others = bind_parts (places_in words) _ (ps, rest) place.2 in
    let last = some_pair (place.0 ∷ others.0.0) ps others.0.1 rest others.2 in
    let number = number_parts word place.0 place.1 in
    let all = more others.0.0 (others.1 ∙ ap (λ r. Some (beside others.0.0 r)) last.1) in
    subst (λ xs. (word ∷ words ≡ map decimal xs ++ rest) × AreSmall xs) last.0 (ap₂ (λ w ws. w ∷ ws) number.0 all.0, (number.1, all.1))

places_parts : (words rest : List Word) (ps : List ℕ) → places_in words ≡ Some (ps, rest) → (words ≡ map decimal ps ++ rest) × AreSmall ps
places_parts [] rest ps h =
    let both = some_pair [] ps [] rest h in
    subst (λ xs. ([] ≡ map decimal xs ++ rest) × AreSmall xs) both.0 (both.1, tt)
places_parts (word ∷ words) rest ps h = places_by word words rest ps (is_end word) (λ others found. places_parts words rest others found) h

record Two (make : ℕ → ℕ → ProofStep) (words rest : List Word) (step : ProofStep) : Type 0 where
  a : ℕ
  b : ℕ
  whole : words ≡ decimal a ∷ decimal b ∷ rest
  one : IsSmall a
  other : IsSmall b
  made : make a b ≡ step

two_parts : (make : ℕ → ℕ → ProofStep) (words rest : List Word) (step : ProofStep) → two_in make words ≡ Some (step, rest) → Two make words rest step
two_parts make words rest step h =
    let first = bind_parts (one_by number_of words) _ (step, rest) h in
    let second = bind_parts (one_by number_of first.0.1) _ (step, rest) first.2 in
    let last = some_pair (make first.0.0 second.0.0) step second.0.1 rest second.2 in
    let word = one_parts number_of words first.0.1 first.0.0 first.1 in
    let next = one_parts number_of first.0.1 second.0.1 second.0.0 second.1 in
    let one = number_parts word.0 first.0.0 word.2 in
    let other = number_parts next.0 second.0.0 next.2 in
    record {
      a = first.0.0;
      b = second.0.0;
      whole = word.1 ∙ ap₂ (λ w ws. w ∷ ws) one.0 (next.1 ∙ ap₂ (λ w ws. w ∷ ws) other.0 last.1);
      one = one.1;
      other = other.1;
      made = last.0;
    }

behind_stands : (verb : StepVerb) (words rest : List Word) (step : ProofStep) → step_behind verb words ≡ Some (step, rest) → Stands (step_word verb ∷ words) rest step
behind_stands v.Known words rest step h =
    let read = bind_parts (one_by number_of words) _ (step, rest) h in
    let last = some_pair (Known read.0.0) step read.0.1 rest read.2 in
    let word = one_parts number_of words read.0.1 read.0.0 read.1 in
    let number = number_parts word.0 read.0.0 word.2 in
    subst (Stands (codes "known" ∷ words) rest) last.0 (codes "known" ∷ decimal read.0.0 ∷ [], ap (λ ws. codes "known" ∷ ws) (word.1 ∙ ap₂ (λ w ws. w ∷ ws) number.0 last.1), (refl, number.1))
behind_stands v.Public words rest step h =
    let read = bind_parts (one_by hex_of words) _ (step, rest) h in
    let last = some_pair (Public read.0.0) step read.0.1 rest read.2 in
    let word = one_parts hex_of words read.0.1 read.0.0 read.1 in
    subst (Stands (codes "public" ∷ words) rest) last.0 (codes "public" ∷ word.0 ∷ [], ap (λ ws. codes "public" ∷ ws) (word.1 ∙ ap (λ ws. word.0 ∷ ws) last.1), (word.0, refl, hex_parts word.0 read.0.0 word.2))
behind_stands v.Join words rest step h =
    let read = bind_parts (places_in words) _ (step, rest) h in
    let last = some_pair (Join read.0.0) step read.0.1 rest read.2 in
    let all = places_parts words read.0.1 read.0.0 read.1 in
    subst (Stands (codes "join" ∷ words) rest) last.0 (codes "join" ∷ map decimal read.0.0, ap (λ ws. codes "join" ∷ ws) (all.0 ∙ ap (λ ws. map decimal read.0.0 ++ ws) last.1), (refl, all.1))
behind_stands v.Part words rest step h =
    let two = two_parts Part words rest step h in
    subst (Stands (codes "part" ∷ words) rest) two.made (codes "part" ∷ decimal two.a ∷ decimal two.b ∷ [], ap (λ ws. codes "part" ∷ ws) two.whole, (refl, two.one, two.other))
behind_stands v.Seal words rest step h =
    let two = two_parts SealUp words rest step h in
    subst (Stands (codes "seal" ∷ words) rest) two.made (codes "seal" ∷ decimal two.a ∷ decimal two.b ∷ [], ap (λ ws. codes "seal" ∷ ws) two.whole, (refl, two.one, two.other))
behind_stands v.Open words rest step h =
    let two = two_parts OpenUp words rest step h in
    subst (Stands (codes "open" ∷ words) rest) two.made (codes "open" ∷ decimal two.a ∷ decimal two.b ∷ [], ap (λ ws. codes "open" ∷ ws) two.whole, (refl, two.one, two.other))
behind_stands v.Mac words rest step h =
    let kind = bind_parts (one_by kind_of words) _ (step, rest) h in
    let word = one_parts kind_of words kind.0.1 kind.0.0 kind.1 in
    let two = two_parts (MacUp kind.0.0) kind.0.1 rest step kind.2 in
    subst (Stands (codes "mac" ∷ words) rest) two.made (codes "mac" ∷ kind_word kind.0.0 ∷ decimal two.a ∷ decimal two.b ∷ [], ap (λ ws. codes "mac" ∷ ws) (word.1 ∙ ap₂ (λ w ws. w ∷ ws) (kind_parts word.0 kind.0.0 word.2) two.whole), (refl, two.one, two.other))

verb_parts : (word : Word) (verb : StepVerb) → step_verb_of word ≡ Some verb → word ≡ step_word verb
verb_parts word verb h = (bytes_eq-Decides word (step_word verb)).0 (find_parts (λ v. bytes_eq word (step_word v)) step_verbs verb h)

pub step_parts : (words rest : List Word) (step : ProofStep) → step_in words ≡ Some (step, rest) → Stands words rest step
step_parts words rest step h =
    let verb = bind_parts (one_by step_verb_of words) _ (step, rest) h in
    let word = one_parts step_verb_of words verb.0.1 verb.0.0 verb.1 in
    let name = verb_parts word.0 verb.0.0 word.2 in
    let whole : words ≡ step_word verb.0.0 ∷ verb.0.1 = word.1 ∙ ap (λ w. w ∷ verb.0.1) name in
    subst (λ ws. Stands ws rest step) (sym whole) (behind_stands verb.0.0 verb.0.1 rest step verb.2)

-- ---- no word of a step ends it

number_plain : (n : ℕ) → IsSmall n → is_end (decimal n) ≡ false
number_plain n small = elim (cases_Bool (is_end (decimal n))) [
  | inl t ↦ absurd (
      let numeral : IsNumeral 10 (codes ";") = subst (IsNumeral 10) ((bytes_eq-Decides (decimal n) (codes ";")).0 t) (decimal_is_IsNumeral n (omega (arith, small))).0 in
      let digit = numeral.1.0 in
      omega (arith, digit))
  | inr f ↦ f
]

hex_plain : (bytes : List ℕ) (word : Word) → IsHex bytes word → is_end word ≡ false
hex_plain bytes word h = elim (cases_Bool (is_end word)) [
  | inl t ↦ absurd (let found : hex_of (codes ";") ≡ Some bytes = ap hex_of (sym ((bytes_eq-Decides word (codes ";")).0 t)) ∙ hex_again word bytes h in cc)
  | inr f ↦ f
]

kind_plain : (kind : MacKind) → is_end (kind_word kind) ≡ false
kind_plain Apop = refl
kind_plain Cram = refl

abbrev pub ArePlain : List Word → Type 0
ArePlain [] = Unit {0}
ArePlain (word ∷ words) = (is_end word ≡ false) × ArePlain words

places_plain : (ps : List ℕ) → AreSmall ps → ArePlain (map decimal ps)
places_plain [] h = tt
places_plain (p ∷ ps) h = (number_plain p h.0, places_plain ps h.1)

pub step_plain : (step : ProofStep) (words : List Word) → IsStep step words → ArePlain words
step_plain (Known index) words (e, small) = subst ArePlain (sym e) (refl, (number_plain index small, tt))
step_plain (Public bytes) words (word, e, says) = subst ArePlain (sym e) (refl, (hex_plain bytes word says, tt))
step_plain (Join places) words (e, small) = subst ArePlain (sym e) (refl, places_plain places small)
step_plain (Part a b) words (e, one, other) = subst ArePlain (sym e) (refl, (number_plain a one, (number_plain b other, tt)))
step_plain (SealUp a b) words (e, one, other) = subst ArePlain (sym e) (refl, (number_plain a one, (number_plain b other, tt)))
step_plain (OpenUp a b) words (e, one, other) = subst ArePlain (sym e) (refl, (number_plain a one, (number_plain b other, tt)))
step_plain (MacUp kind a b) words (e, one, other) = subst ArePlain (sym e) (refl, (kind_plain kind, (number_plain a one, (number_plain b other, tt))))

-- ---- what is written is read so

behind_verb : (verb : StepVerb) (step : ProofStep) (words more rest : List Word) → step_verb_of (step_word verb) ≡ Some verb → words ≡ step_word verb ∷ more → step_behind verb (more ++ rest) ≡ Some (step, rest) → step_in (words ++ rest) ≡ Some (step, rest)
behind_verb verb step words more rest found e h = rw (e, found) h

two_again : (make : ℕ → ℕ → ProofStep) (a b : ℕ) (rest : List Word) → IsSmall a → IsSmall b → two_in make (decimal a ∷ decimal b ∷ rest) ≡ Some (make a b, rest)
two_again make a b rest one other =
    let first : number_of (decimal a) ≡ Some a = number_again a (decimal a) one refl in
    let second : number_of (decimal b) ≡ Some b = number_again b (decimal b) other refl in
    rw (first, second) refl

mac_again : (kind : MacKind) (a b : ℕ) (rest : List Word) → IsSmall a → IsSmall b → mac_step_in (kind_word kind ∷ decimal a ∷ decimal b ∷ rest) ≡ Some (MacUp kind a b, rest)
mac_again kind a b rest one other = rw (kind_again kind) (two_again (MacUp kind) a b rest one other)

ended_places : (rest : List Word) → ends_step rest ≡ true → places_in rest ≡ Some ([], rest)
ended_places [] h = refl
ended_places (word ∷ words) h = rw h refl

places_again : (ps : List ℕ) (rest : List Word) → AreSmall ps → ends_step rest ≡ true → places_in (map decimal ps ++ rest) ≡ Some (ps, rest)
places_again [] rest small h = ended_places rest h
places_again (p ∷ ps) rest small h =
    let number : number_of (decimal p) ≡ Some p = number_again p (decimal p) small.0 refl in
    rw (number_plain p small.0, number, places_again ps rest small.1 h) refl

known_again : (n : ℕ) (rest : List Word) → IsSmall n → step_behind v.Known (decimal n ∷ rest) ≡ Some (Known n, rest)
known_again n rest small =
    let number : number_of (decimal n) ≡ Some n = number_again n (decimal n) small refl in
    rw number refl

public_again : (bytes : List ℕ) (word : Word) (rest : List Word) → IsHex bytes word → step_behind v.Public (word ∷ rest) ≡ Some (Public bytes, rest)
public_again bytes word rest says = rw (hex_again word bytes says) refl

join_again : (ps : List ℕ) (rest : List Word) → AreSmall ps → ends_step rest ≡ true → step_behind v.Join (map decimal ps ++ rest) ≡ Some (Join ps, rest)
join_again ps rest small h = rw (places_again ps rest small h) refl

pub step_again : (step : ProofStep) (words rest : List Word) → ends_step rest ≡ true → IsStep step words → step_in (words ++ rest) ≡ Some (step, rest)
step_again (Known n) words rest h (e, small) = behind_verb v.Known (Known n) words (decimal n ∷ []) rest refl e (known_again n rest small)
step_again (Public bytes) words rest h (word, e, says) = behind_verb v.Public (Public bytes) words (word ∷ []) rest refl e (public_again bytes word rest says)
step_again (Join ps) words rest h (e, small) = behind_verb v.Join (Join ps) words (map decimal ps) rest refl e (join_again ps rest small h)
step_again (Part a b) words rest h (e, one, other) = behind_verb v.Part (Part a b) words (decimal a ∷ decimal b ∷ []) rest refl e (two_again Part a b rest one other)
step_again (SealUp a b) words rest h (e, one, other) = behind_verb v.Seal (SealUp a b) words (decimal a ∷ decimal b ∷ []) rest refl e (two_again SealUp a b rest one other)
step_again (OpenUp a b) words rest h (e, one, other) = behind_verb v.Open (OpenUp a b) words (decimal a ∷ decimal b ∷ []) rest refl e (two_again OpenUp a b rest one other)
step_again (MacUp kind a b) words rest h (e, one, other) = behind_verb v.Mac (MacUp kind a b) words (kind_word kind ∷ decimal a ∷ decimal b ∷ []) rest refl e (mac_again kind a b rest one other)

-- ---- a derivation, step by step

split_end : (words : List Word) → ArePlain words → slice_split is_end words ≡ words ∷ []
split_end [] h = refl
split_end (word ∷ words) h = slice_split-cons_no is_end word words h.0 ∙ ap (onto_first word) (split_end words h.1)

split_on : (front words : List Word) (word : Word) → ArePlain front → is_end word ≡ true → slice_split is_end (front ++ word ∷ words) ≡ front ∷ slice_split is_end words
split_on [] words word h e = slice_split-cons_yes is_end word words e
split_on (w ∷ front) words word h e = slice_split-cons_no is_end w (front ++ word ∷ words) h.0 ∙ ap (onto_first w) (split_on front words word h.1 e)

-- so far these steps were read of the parts in front
pub record HasRead (all left : List Word) (done : List ProofStep) : Type 0 where
  pub front : List (List Word)
  pub whole : slice_split is_end all ≡ front ++ slice_split is_end left
  pub steps : AreSteps done front

pub none_read : (all : List Word) → HasRead all all []
none_read all = record { front = []; whole = refl; steps = tt }

steps_last : (done : List ProofStep) (front : List (List Word)) (step : ProofStep) (part : List Word) → AreSteps done front → IsStep step part → AreSteps (done ++ step ∷ []) (front ++ part ∷ [])
steps_last [] [] step part h s = (s, tt)
steps_last [] (p ∷ front) step part h s = absurd h
steps_last (d ∷ done) [] step part h s = absurd h
steps_last (d ∷ done) (p ∷ front) step part h s = (h.0, steps_last done front step part h.1 s)

-- what a step that was read stands in: its words, and its end
whole_parts : (words rest : List Word) (step : ProofStep) → whole_step_in words ≡ Some (step, rest) → (ends_step rest ≡ true) × (step_in words ≡ Some (step, rest))
whole_parts words rest step h =
    let read = bind_parts (step_in words) if_ended (step, rest) h in
    let ends = if_parts (ends_step read.0.1) read.0 (step, rest) read.2 in
    (ap (λ r. ends_step r.1) (sym ends.1) ∙ ends.0, read.1 ∙ ap Some ends.1)

pub one_more : (all left words : List Word) (done : List ProofStep) (step : ProofStep) (word : Word) → HasRead all left done → whole_step_in left ≡ Some (step, word ∷ words) → HasRead all words (done ++ step ∷ [])
one_more all left words done step word read h =
    let both = whole_parts left (word ∷ words) step h in
    let stands = step_parts left (word ∷ words) step both.1 in
    let split : slice_split is_end left ≡ stands.0 ∷ slice_split is_end words = ap (slice_split is_end) stands.1 ∙ split_on stands.0 words word (step_plain step stands.0 stands.2) both.0 in
    record {
      front = read.front ++ stands.0 ∷ [];
      whole = read.whole ∙ ap (λ ps. read.front ++ ps) split ∙ sym (append_assoc read.front (stands.0 ∷ []) (slice_split is_end words));
      steps = steps_last done read.front step stands.0 read.steps stands.2;
    }

pub all_read : (all left rest : List Word) (done : List ProofStep) (step : ProofStep) → HasRead all left done → whole_step_in left ≡ Some (step, rest) → rest ≡ [] → IsProofText (done ++ step ∷ []) all
all_read all left rest done step read h e =
    let both = whole_parts left rest step h in
    let stands = step_parts left rest step both.1 in
    let split : slice_split is_end left ≡ stands.0 ∷ [] = ap (slice_split is_end) (stands.1 ∙ ap (λ r. stands.0 ++ r) e ∙ append-nil stands.0) ∙ split_end stands.0 (step_plain step stands.0 stands.2) in
    subst (AreSteps (done ++ step ∷ [])) (sym (read.whole ∙ ap (λ ps. read.front ++ ps) split)) (steps_last done read.front step stands.0 read.steps stands.2)

-- the first part of words, and what ends it
record First (words : List Word) (parts : List (List Word)) : Type 0 where
  part : List Word
  others : List (List Word)
  rest : List Word
  parted : parts ≡ part ∷ others
  whole : words ≡ part ++ rest
  ends : ends_step rest ≡ true

first_onto : (word : Word) (words : List Word) (parts : List (List Word)) → First words parts → First (word ∷ words) (onto_first word parts)
first_onto word words parts first = record {
  part = word ∷ first.part;
  others = first.others;
  rest = first.rest;
  parted = ap (onto_first word) first.parted;
  whole = ap (λ ws. word ∷ ws) first.whole;
  ends = first.ends;
}

first_by : (word : Word) (words : List Word) (t : Bool) → is_end word ≡ t → First words (slice_split is_end words) → First (word ∷ words) (cond t ([] ∷ slice_split is_end words) (onto_first word (slice_split is_end words)))
first_by word words true e first = record { part = []; others = slice_split is_end words; rest = word ∷ words; parted = refl; whole = refl; ends = e }
first_by word words false e first = first_onto word words (slice_split is_end words) first

first_of : (words : List Word) → First words (slice_split is_end words)
first_of [] = record { part = []; others = []; rest = []; parted = refl; whole = refl; ends = refl }
first_of (word ∷ words) = first_by word words (is_end word) refl (first_of words)

step_behind_front : (steps : List ProofStep) (front others : List (List Word)) (part : List Word) → AreSteps steps (front ++ part ∷ others) → (step : ProofStep) × IsStep step part
step_behind_front [] [] others part h = absurd h
step_behind_front (step ∷ steps) [] others part h = (step, h.0)
step_behind_front [] (p ∷ front) others part h = absurd h
step_behind_front (step ∷ steps) (p ∷ front) others part h = step_behind_front steps front others part h.1

whole_again : (step : ProofStep) (words part rest : List Word) → words ≡ part ++ rest → ends_step rest ≡ true → IsStep step part → whole_step_in words ≡ Some (step, rest)
whole_again step words part rest e ends h = rw (e, step_again step part rest ends h, ends) refl

pub none_reads : (all left : List Word) (done : List ProofStep) → HasRead all left done → whole_step_in left ≡ None → (steps : List ProofStep) → IsProofText steps all → ⊥
none_reads all left done read none steps text =
    let first = first_of left in
    let parts : slice_split is_end all ≡ read.front ++ first.part ∷ first.others = read.whole ∙ ap (λ ps. read.front ++ ps) first.parted in
    let found = step_behind_front steps read.front first.others first.part (subst (AreSteps steps) parts text) in
    let again : None ≡ Some (beside found.0 first.rest) = sym none ∙ whole_again found.0 left first.part first.rest first.whole first.ends found.1 in
    absurd cc

pub step_shorter : (words rest next : List Word) (step : ProofStep) (word : Word) → whole_step_in words ≡ Some (step, rest) → rest ≡ word ∷ next → length next < length words
step_shorter words rest next step word h e =
    let stands = step_parts words rest step (whole_parts words rest step h).1 in
    let whole = ap length stands.1 ∙ length-append stands.0 rest in
    let tail = ap length e in
    omega (arith, whole, tail)

-- ---- for the loop over places

abbrev pub behind_places : List ℕ → List ℕ × List Word → List ℕ × List Word
behind_places done read = (done ++ read.0, read.1)

-- so far these places were read
abbrev pub PlacesSo : List Word → List Word → List ℕ → Type 0
PlacesSo all words places = places_in all ≡ option_map (behind_places places) (places_in words)

none_behind : (o : Option (List ℕ × List Word)) → o ≡ option_map (behind_places []) o
none_behind None = refl
none_behind (Some read) = refl

pub places_begin : (all : List Word) (places : List ℕ) → places ≡ [] → PlacesSo all all places
places_begin all places e = rw e (none_behind (places_in all))

more_behind : (done : List ℕ) (n : ℕ) (o : Option (List ℕ × List Word)) → option_map (behind_places done) (o >>= λ others. Some (beside (n ∷ others.0) others.1)) ≡ option_map (behind_places (done ++ n ∷ [])) o
more_behind done n None = refl
more_behind done n (Some read) = ap (λ ns. Some (beside ns read.1)) (sym (append_assoc done (n ∷ []) read.0))

place_by : (words next : List Word) (done : List ℕ) (n : ℕ) → ends_step words ≡ false → one_by number_of words ≡ Some (n, next) → option_map (behind_places done) (places_in words) ≡ option_map (behind_places (done ++ n ∷ [])) (places_in next)
place_by [] next done n going h = absurd cc
place_by (word ∷ words) next done n going h =
    let read = one_parts number_of (word ∷ words) next n h in
    let first : word ≡ read.0 = ap head_of read.1 in
    let tail : words ≡ next = ap tail_of read.1 in
    let number : number_of word ≡ Some n = ap number_of first ∙ read.2 in
    rw (going, number, tail) (more_behind done n (places_in next))

pub place_more : (all words next : List Word) (places more : List ℕ) (n : ℕ) → PlacesSo all words places → ends_step words ≡ false → one_by number_of words ≡ Some (n, next) → more ≡ places ++ n ∷ [] → PlacesSo all next more
place_more all words next places more n so going h put = rw put (so ∙ place_by words next places n going h)

no_place : (words : List Word) → ends_step words ≡ false → one_by number_of words ≡ None → places_in words ≡ None
no_place [] going h = absurd cc
no_place (word ∷ words) going h = rw (going, no_number word words h) refl

pub place_none : (all words : List Word) (places : List ℕ) → PlacesSo all words places → ends_step words ≡ false → one_by number_of words ≡ None → places_in all ≡ None
place_none all words places so going h = so ∙ ap (option_map (behind_places places)) (no_place words going h)

pub places_end : (all words : List Word) (places : List ℕ) → PlacesSo all words places → ends_step words ≡ true → places_in all ≡ Some (places, words)
places_end all words places so over = so ∙ ap (option_map (behind_places places)) (ended_places words over) ∙ ap (λ ns. Some (beside ns words)) (append-nil places)

pub place_shorter : (words next : List Word) (n : ℕ) → one_by number_of words ≡ Some (n, next) → length next < length words
place_shorter words next n h = let read = one_parts number_of words next n h in let whole = ap length read.1 in omega (arith, whole)

pub one_read : (all left mid words : List Word) (done new : List ProofStep) (step : ProofStep) (word : Word) → HasRead all left done → whole_step_in left ≡ Some (step, mid) → mid ≡ word ∷ words → new ≡ done ++ step ∷ [] → HasRead all words new
one_read all left mid words done new step word read h e put =
    subst (HasRead all words) (sym put) (one_more all left words done step word read (h ∙ ap (λ ws. Some (beside step ws)) e))

pub over_is : (words : List Word) → is_over words ≡ true → words ≡ []
over_is [] h = refl
over_is (word ∷ words) h = absurd cc
