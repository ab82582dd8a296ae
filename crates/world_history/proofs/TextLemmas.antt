-- The lines of a table as a text, and what is read back from it.
use Rattle.std.proofs.Common.{◌≡◌, ℕ, ◌+◌, ◌<◌, ◌≤◌, List, [], ◌∷◌, ◌++◌, Bool, true, not, ◌&&◌, cond, eqb, length, append_assoc, append-nil, length-append, Option, Some, None, refl, sym, ap, subst, ◌∙◌, arith, inl, inr}
use Rattle.std.specs.Prelude.{◌^◌, codes}
use Rattle.std.specs.List.{filter_map, list_all, onto_first}
use Rattle.std.proofs.lemmas.Bool.{cases_Bool, and_parts, and_from, not-true, not_from_false}
use Rattle.std.proofs.lemmas.List.Concat.{flat_map-cons}
use Rattle.std.proofs.lemmas.List.Elements.{filter-append}
use Rattle.std.proofs.lemmas.List.Splits.{slice_split-cons_yes, slice_split-cons_no}
use Rattle.attr_tuples.specs.Cutting.{text_lines}
use Rattle.auth_tables.specs.Lines.{counted, counts, first_bad, first_bad_behind, is_bad}
use Rattle.auth_tables.specs.Keys.{KeyLine, bad_key_line, fits_keys, key_of, keys_in}
use Rattle.auth_tables.specs.Speaks.{SpeakLine, bad_speak_line, fits_speaks, names_in, speaks_in}
use Rattle.world_scripts.specs.Lines.{ScriptLine, Dom, AsKey, AsSpeak, Reload, Node, Restart, Ctl, Open, Start, Read, Write, Answer, NoAnswer, AsGive, Close, line_text}
use Rattle.world_scripts.specs.Reading.{line_of}
use Rattle.world_scripts.specs.Scripts.{Numbered, are_whole, is_whole}
use Rattle.world_scripts.proofs.LineLemmas.{line_parts}
use Rattle.world_history.specs.Servers.{AreToldBy, GivesKeys, GivesSpeaks}
use Rattle.world_history.specs.Told.{Gathered, ends_tables, gathered_behind, nothing, key_line, lines_text, speak_line, told, told_keys, told_on, told_speaks}

-- ---- lines without newlines

split_line : (line rest : List ℕ) → is_whole line ≡ true → text_lines (line ++ 10 ∷ rest) ≡ line ∷ text_lines rest
split_line [] rest h = slice_split-cons_yes (λ b. eqb b 10) 10 rest refl
split_line (b ∷ line) rest h =
    let both = and_parts (not (eqb b 10)) (is_whole line) h in
    slice_split-cons_no (λ x. eqb x 10) b (line ++ 10 ∷ rest) (not-true (eqb b 10) both.0) ∙ ap (onto_first b) (split_line line rest both.1)

pub lines_again : (lines : List (List ℕ)) → list_all is_whole lines ≡ true → text_lines (lines_text lines) ≡ lines ++ [] ∷ []
lines_again [] h = refl
lines_again (line ∷ lines) h =
    let both = and_parts (is_whole line) (list_all is_whole lines) h in
    ap text_lines (flat_map-cons (λ (l : List ℕ). l ++ 10 ∷ []) line lines ∙ append_assoc line (10 ∷ []) (lines_text lines))
    ∙ (split_line line (lines_text lines) both.0 ∙ ap (λ (ls : List (List ℕ)). line ∷ ls) (lines_again lines both.1))

pub lines_few : (lines : List (List ℕ)) → length lines ≤ length (lines_text lines)
lines_few [] = omega arith
lines_few (line ∷ lines) =
    let whole : length (lines_text (line ∷ lines)) ≡ length line + 1 + length (lines_text lines) =
    ap length (flat_map-cons (λ (l : List ℕ). l ++ 10 ∷ []) line lines) ∙ (length-append (line ++ 10 ∷ []) (lines_text lines) ∙ ap (λ (n : ℕ). n + length (lines_text lines)) (length-append line (10 ∷ []))) in
    omega (arith, whole, lines_few lines)

-- ---- the lines that tell have none

abbrev pub AllWhole : List ScriptLine → Type 0
AllWhole lines = (list_all is_whole (filter_map key_line lines) ≡ true) × (list_all is_whole (filter_map speak_line lines) ≡ true)

tuple_whole : (front tuple : List ℕ) → list_all (λ b. not (eqb b 10)) (front ++ tuple) ≡ true → is_whole tuple ≡ true
tuple_whole [] tuple h = h
tuple_whole (b ∷ front) tuple h = tuple_whole front tuple (and_parts (not (eqb b 10)) _ h).1

line_whole : (line : ScriptLine) (more : List ScriptLine) → is_whole (line_text line) ≡ true → AllWhole more → AllWhole (told_on ends_tables (Some line) more)
line_whole (Dom dom) more h a = a
line_whole (AsKey tuple) more h a = (and_from (is_whole tuple) _ (tuple_whole (codes "askey" ++ 32 ∷ []) tuple h) a.0, a.1)
line_whole (AsSpeak tuple) more h a = (a.0, and_from (is_whole tuple) _ (tuple_whole (codes "asspeak" ++ 32 ∷ []) tuple h) a.1)
line_whole Reload more h a = (refl, refl)
line_whole (Node node) more h a = a
line_whole (Restart node) more h a = a
line_whole (Ctl node line) more h a = a
line_whole (Open node conv) more h a = a
line_whole (Start conv word tuple) more h a = a
line_whole (Read conv) more h a = a
line_whole (Write conv bytes) more h a = a
line_whole (Answer conv bytes) more h a = a
line_whole (NoAnswer conv) more h a = a
line_whole (AsGive session bytes first second third) more h a = (refl, refl)
line_whole (Close conv) more h a = a

text_whole : (text : List ℕ) (read : Option ScriptLine) (more : List ScriptLine) → line_of text ≡ read → is_whole text ≡ true → AllWhole more → AllWhole (told_on ends_tables read more)
text_whole text None more is h a = (refl, refl)
text_whole text (Some line) more is h a = line_whole line more (sym (ap is_whole (line_parts text line is).same) ∙ h) a

pub lines_told_whole : (lines : List Numbered) → are_whole lines ≡ true → AllWhole (told ends_tables lines)
lines_told_whole [] h = (refl, refl)
lines_told_whole (line ∷ lines) h =
    let both = and_parts (is_whole line.text) (are_whole lines) h in
    text_whole line.text (line_of line.text) (told ends_tables lines) refl both.0 (lines_told_whole lines both.1)

-- ---- an empty last line counts for nothing

module _ (fits : List (List ℕ) → List ℕ → Bool) where
  bad_behind : (before lines : List (List ℕ)) → first_bad_behind fits before (lines ++ [] ∷ []) ≡ first_bad_behind fits before lines
  bad_behind before [] = refl
  bad_behind before (line ∷ lines) = ap (λ (o : Option ℕ). cond (is_bad fits before line) (Some (length before + 1)) o) (bad_behind (before ++ line ∷ []) lines)

  pub bad_again : (lines : List (List ℕ)) → list_all is_whole lines ≡ true → first_bad fits (text_lines (lines_text lines)) ≡ first_bad fits lines
  unfolding first_bad
  bad_again lines h = ap (first_bad_behind fits []) (lines_again lines h) ∙ bad_behind [] lines

pub counted_again : (lines : List (List ℕ)) → list_all is_whole lines ≡ true → counted (text_lines (lines_text lines)) ≡ counted lines
counted_again lines h = ap counted (lines_again lines h) ∙ (filter-append counts lines ([] ∷ []) ∙ append-nil (counted lines))

-- ---- gathering

more_text : (text tuple : List ℕ) (lines : List (List ℕ)) → text ++ lines_text (tuple ∷ lines) ≡ (text ++ (tuple ++ 10 ∷ [])) ++ lines_text lines
more_text text tuple lines = ap (λ (l : List ℕ). text ++ l) (flat_map-cons (λ (l : List ℕ). l ++ 10 ∷ []) tuple lines) ∙ sym (append_assoc text (tuple ++ 10 ∷ []) (lines_text lines))

pub key_gathered : (g : Gathered) (keys tuple : List ℕ) (more : List ScriptLine) → keys ≡ g.keys ++ (tuple ++ 10 ∷ [])
    → gathered_behind g (AsKey tuple ∷ more) ≡ gathered_behind (record { keys = keys; speaks = g.speaks }) more
key_gathered g keys tuple more is =
    let p : g.keys ++ lines_text (tuple ∷ filter_map key_line more) ≡ keys ++ lines_text (filter_map key_line more) =
    more_text g.keys tuple (filter_map key_line more) ∙ ap (λ (l : List ℕ). l ++ lines_text (filter_map key_line more)) (sym is) in
    λ i. record { keys = p i; speaks = g.speaks ++ lines_text (filter_map speak_line more) }

pub speak_gathered : (g : Gathered) (speaks tuple : List ℕ) (more : List ScriptLine) → speaks ≡ g.speaks ++ (tuple ++ 10 ∷ [])
    → gathered_behind g (AsSpeak tuple ∷ more) ≡ gathered_behind (record { keys = g.keys; speaks = speaks }) more
speak_gathered g speaks tuple more is =
    let p : g.speaks ++ lines_text (tuple ∷ filter_map speak_line more) ≡ speaks ++ lines_text (filter_map speak_line more) =
    more_text g.speaks tuple (filter_map speak_line more) ∙ ap (λ (l : List ℕ). l ++ lines_text (filter_map speak_line more)) (sym is) in
    λ i. record { keys = g.keys ++ lines_text (filter_map key_line more); speaks = p i }

-- nothing more
pub none_gathered : (g : Gathered) → gathered_behind g [] ≡ g
none_gathered g = λ i. record { keys = append-nil g.keys i; speaks = append-nil g.speaks i }

-- one line more, the last that tells, and no line left
pub gathers_on : (whole old new : Gathered) (line : Numbered) (left rest : List Numbered) → gathered_behind old (told ends_tables left) ≡ whole → left ≡ line ∷ rest
    → ((more : List ScriptLine) → gathered_behind old (told_on ends_tables (line_of line.text) more) ≡ gathered_behind new more) → gathered_behind new (told ends_tables rest) ≡ whole
gathers_on whole old new line left rest so is step = sym (step (told ends_tables rest)) ∙ (ap (λ (ls : List Numbered). gathered_behind old (told ends_tables ls)) (sym is) ∙ so)

pub gathers_last : (whole old new : Gathered) (line : Numbered) (left rest : List Numbered) → gathered_behind old (told ends_tables left) ≡ whole → left ≡ line ∷ rest
    → ((more : List ScriptLine) → gathered_behind old (told_on ends_tables (line_of line.text) more) ≡ gathered_behind new []) → new ≡ whole
gathers_last whole old new line left rest so is step =
    sym (none_gathered new) ∙ (sym (step (told ends_tables rest)) ∙ (ap (λ (ls : List Numbered). gathered_behind old (told ends_tables ls)) (sym is) ∙ so))

pub gathers_all : (whole g : Gathered) (left : List Numbered) → gathered_behind g (told ends_tables left) ≡ whole → left ≡ [] → g ≡ whole
gathers_all whole g left so none = sym (none_gathered g) ∙ (ap (λ (ls : List Numbered). gathered_behind g (told ends_tables ls)) (sym none) ∙ so)

-- ---- the tables of what was gathered

gives_keys : (bad : Option ℕ) (lines others : List (List ℕ)) (table : List KeyLine) → counted lines ≡ counted others → GivesKeys bad lines table → GivesKeys bad others table
gives_keys None lines others table same h = λ user. h user ∙ ap (λ (ls : List (List ℕ)). key_of user (keys_in ls)) same
gives_keys (Some bad) lines others table same h = h

gives_speaks : (bad : Option ℕ) (lines others : List (List ℕ)) (table : List SpeakLine) → counted lines ≡ counted others → GivesSpeaks bad lines table → GivesSpeaks bad others table
gives_speaks None lines others table same h = λ host. h host ∙ ap (λ (ls : List (List ℕ)). names_in (speaks_in ls) host) same
gives_speaks (Some bad) lines others table same h = h

abbrev pub gathered_of : List ℕ → List ℕ → Gathered
gathered_of keys speaks = record { keys = keys; speaks = speaks }

-- what was read of the texts is what the lines tell
pub tables_told : (lines : List Numbered) (g : Gathered) (keys speaks : List ℕ) (table : List KeyLine) (hosts : List SpeakLine) (bad_key bad_speak : Option ℕ)
    → are_whole lines ≡ true → g ≡ gathered_behind nothing (told ends_tables lines) → keys ≡ g.keys → speaks ≡ g.speaks
    → length keys + 1 < 2 ^ 32 → bad_key ≡ bad_key_line keys → GivesKeys bad_key (text_lines keys) table
    → length speaks + 1 < 2 ^ 32 → bad_speak ≡ bad_speak_line speaks → GivesSpeaks bad_speak (text_lines speaks) hosts
    → AreToldBy lines bad_key bad_speak table hosts
tables_told lines g keys speaks table hosts bad_key bad_speak lines_whole is keys_are speaks_are few_keys bad_keys gives few_speaks bad_speaks grants =
    let whole = lines_told_whole lines lines_whole in
    let ks : keys ≡ lines_text (told_keys lines) = keys_are ∙ ap (λ (h : Gathered). h.keys) is in
    let ss : speaks ≡ lines_text (told_speaks lines) = speaks_are ∙ ap (λ (h : Gathered). h.speaks) is in
    record {
      first_key = bad_keys ∙ (ap bad_key_line ks ∙ bad_again fits_keys (told_keys lines) whole.0);
      first_speak = bad_speaks ∙ (ap bad_speak_line ss ∙ bad_again fits_speaks (told_speaks lines) whole.1);
      give_keys = gives_keys bad_key (text_lines keys) (told_keys lines) table (ap (λ (t : List ℕ). counted (text_lines t)) ks ∙ counted_again (told_keys lines) whole.0) gives;
      give_speaks = gives_speaks bad_speak (text_lines speaks) (told_speaks lines) hosts (ap (λ (t : List ℕ). counted (text_lines t)) ss ∙ counted_again (told_speaks lines) whole.1) grants;
      few_keys = omega (arith, few_keys, ap (length {A = ℕ}) ks, lines_few (told_keys lines));
      few_speaks = omega (arith, few_speaks, ap (length {A = ℕ}) ss, lines_few (told_speaks lines));
    }
