-- What is noted of the setting of a script's record, line by line.
use Rattle.std.proofs.Common.{◌≡◌, ℕ, zero, suc, List, [], ◌∷◌, ◌++◌, map, length, Bool, true, false, ◌||◌, Option, Some, None, Ok, if◌then◌else◌, refl, sym, ap, ◌∙◌, inl, inr}
use Rattle.std.specs.Prelude.{option_map, unwrap_or}
use Rattle.std.specs.List.{filter_map, slice_index_or}
use Rattle.std.specs.Map.{lookup}
use Rattle.std.specs.Str.{bytes_eq}
use Rattle.std.proofs.lemmas.Bool.{cases_Bool, or_parts, true≢false}
use Rattle.std.proofs.lemmas.List.{length-map, map-append}
use Rattle.std.proofs.lemmas.Slice.Eq.{bytes_eq-Decides}
use Rattle.auth_tables.specs.Lines.{counted}
use Rattle.auth_tables.specs.Keys.{key_of, keys_in}
use Rattle.auth_tables.specs.Speaks.{SpeakLine as HostLine, may_speak, names_in, names_of, speaks_in}
use Rattle.auth_server.specs.Answers.{Knowledge}
use Rattle.wire_histories.specs.Legal.{Tables as BothTables, tables_at}
use Rattle.wire_histories.specs.Noted.{Noted}
use Rattle.world_scripts.specs.Lines.{ScriptLine, Reload}
use Rattle.world_scripts.specs.Reading.{line_of}
use Rattle.world_scripts.specs.Scripts.{Numbered, script_lines}
use Rattle.world_history.specs.Acts.{Act, Domain, KeyLine, SpeakLine, Reloaded, Made, Restarted, Told, Opened, Started, Got, Given, Answered, Unanswered, Asked, Closed, domain, key_lines, speak_lines, was_asked, were_used}
use Rattle.world_history.specs.AllTables.{all_tables, knows, merged, past_tables, tables_of}
use Rattle.world_history.specs.Noting.{NotesSo, key_kept, noted_entry}
use Rattle.world_history.specs.NotingFronts.{BeginsSo, NotesFront, NotesTables, both_tables}
use Rattle.world_history.specs.Scripts.{judged}
use Rattle.world_history.specs.Telling.{Tells, reads_again}
use Rattle.world_history.specs.Told.{ends_tables, key_line, speak_line, told, told_keys, told_on, told_speaks}
use Rattle.world_history.specs.declared.tables.Tables.{Tables}
use Rattle.world_history.proofs.TellLemmas.{keys_known, speaks_known, tells_again, tells_first, tells_on}

-- ---- a table in which each host has all of its names tells what the lines tell

-- a line is the host's
abbrev any_host : List ℕ → List HostLine → Bool
any_host host [] = false
any_host host (line ∷ lines) = bytes_eq host line.0 || any_host host lines

one_line : (b any : Bool) (x y : List (List ℕ)) (rest : Option (List (List ℕ))) → (b ≡ true → x ≡ y) → rest ≡ (if any then Some y else None) → (if b then Some x else rest) ≡ (if b || any then Some y else None)
one_line true any x y rest same later = ap (λ n. Some n) (same refl)
one_line false any x y rest same later = later

found_names : (all lines : List HostLine) (host : List ℕ) → lookup (bytes_eq host) (map (λ line. (line.0, names_in all line.0)) lines) ≡ (if any_host host lines then Some (names_in all host) else None)
found_names all [] host = refl
found_names all (line ∷ lines) host =
    one_line (bytes_eq host line.0) (any_host host lines) (names_in all line.0) (names_in all host) (lookup (bytes_eq host) (map (λ l. (l.0, names_in all l.0)) lines)) (λ is. ap (names_in all) (sym ((bytes_eq-Decides host line.0).0 is))) (found_names all lines host)

no_names : (lines : List HostLine) (host : List ℕ) → any_host host lines ≡ false → names_in lines host ≡ []
no_names [] host none = refl
no_names (line ∷ lines) host none =
    let parts = or_parts (bytes_eq host line.0) (any_host host lines) none in
    ap (λ b. (if b then line.1 else []) ++ names_in lines host) parts.0 ∙ no_names lines host parts.1

names_by : (any : Bool) (names : List (List ℕ)) → (any ≡ false → names ≡ []) → unwrap_or (if any then Some names else None) [] ≡ names
names_by true names none = refl
names_by false names none = sym (none refl)

pub merged_names : (lines : List HostLine) (host : List ℕ) → names_of host (merged lines) ≡ names_in lines host
merged_names lines host = ap (λ found. unwrap_or found []) (found_names lines lines host) ∙ names_by (any_host host lines) (names_in lines host) (no_names lines host)

-- ---- what is known by the newest tables, where no more lines of theirs are left

same_keys : (left : List Numbered) (acts : List Act) (server : Tables) → told ends_tables left ≡ [] → Tells left acts server
    → (user : List ℕ) → key_of user server.core.keys ≡ key_of user (keys_in (counted (key_lines acts)))
same_keys left acts server none h user = elim (cases_Bool (were_used acts)) [
  | inl used ↦ sym (ap (λ (k : Knowledge). k.key user) (h.since used))
  | inr unused ↦ sym (keys_known (key_lines acts) (told_keys left) server.bad_key server.core.keys (ap (filter_map key_line) none) (h.before unused).good_keys (h.before unused).keys user)
]

same_speaks : (left : List Numbered) (acts : List Act) (server : Tables) → told ends_tables left ≡ [] → Tells left acts server
    → (host user : List ℕ) → may_speak (names_of host server.core.speaks) host user ≡ may_speak (names_of host (merged (speaks_in (counted (speak_lines acts))))) host user
same_speaks left acts server none h host user = elim (cases_Bool (were_used acts)) [
  | inl used ↦ sym (ap (λ (k : Knowledge). k.speaks host user) (h.since used)) ∙ ap (λ names. may_speak names host user) (sym (merged_names (speaks_in (counted (speak_lines acts))) host))
  | inr unused ↦ ap (λ names. may_speak names host user) (sym (speaks_known (speak_lines acts) (told_speaks left) server.bad_speak server.core.speaks (ap (filter_map speak_line) none) (h.before unused).good_speaks (h.before unused).speaks host) ∙ sym (merged_names (speaks_in (counted (speak_lines acts))) host))
]

newest_known : (left : List Numbered) (acts : List Act) (server : Tables) → told ends_tables left ≡ [] → Tells left acts server
    → (dom : List ℕ) → knows dom (both_tables server) ≡ knows dom (tables_of acts)
newest_known left acts server none h dom = λ i. record {
  dom = dom;
  key = λ user. same_keys left acts server none h user i;
  speaks = λ host user. same_speaks left acts server none h host user i;
}

-- by all tables
all_known : (left : List Numbered) (acts : List Act) (n : Noted) (h : NotesFront left acts n) → told ends_tables left ≡ []
    → (dom : List ℕ) → map (knows dom) n.tables ≡ map (knows dom) (all_tables acts)
all_known left acts n h none dom =
    ap (map (knows dom)) h.tables
    ∙ (map-append (knows dom) h.past (both_tables h.server ∷ [])
    ∙ (ap (λ (ks : List Knowledge). ks ++ knows dom (both_tables h.server) ∷ []) (h.known_past dom)
    ∙ (ap (λ (k : Knowledge). map (knows dom) (past_tables acts) ++ k ∷ []) (newest_known left acts h.server none h.tells dom)
    ∙ sym (map-append (knows dom) (past_tables acts) (tables_of acts ∷ [])))))

-- ---- at the first line

pub notes_first : (script : List ℕ) (n : Noted) → BeginsSo (script_lines script) n → NotesFront (script_lines script) [] n
notes_first script n t =
    let server : Tables = record { core = record { dom = n.dom; keys = t.tables.keys; speaks = t.tables.speaks }; bad_key = t.bad_key; bad_speak = t.bad_speak } in
    record {
      keys = λ conv. ap (λ (m : Noted). key_of conv m.keys) t.noted;
      server = server;
      tells = tells_first script server (record { dom = ap (λ (m : Noted). m.dom) t.noted; has = t.told });
      dom = refl;
      past = [];
      tables = ap (λ (m : Noted). m.tables) t.noted;
      known_past = λ dom. refl;
    }

-- ---- behind a line that is carried out

past_same : (acts : List Act) (act : Act) → reads_again act ≡ false → past_tables (act ∷ acts) ≡ past_tables acts
past_same acts (Domain dom) not = refl
past_same acts (KeyLine tuple) not = refl
past_same acts (SpeakLine tuple) not = refl
past_same acts Reloaded not = absurd (true≢false not)
past_same acts (Made node) not = refl
past_same acts (Restarted node) not = refl
past_same acts (Told node line) not = refl
past_same acts (Opened node conv) not = refl
past_same acts (Started conv word tuple) not = refl
past_same acts (Got conv) not = refl
past_same acts (Given conv bytes) not = refl
past_same acts (Answered conv bytes call) not = refl
past_same acts (Unanswered conv call) not = refl
past_same acts (Asked session request words) not = refl
past_same acts (Closed conv) not = refl

pub notes_on : (line : Numbered) (left : List Numbered) (acts : List Act) (act : Act) (old new : Noted) → NotesFront (line ∷ left) acts old
    → reads_again act ≡ false → judged acts (line_of line.text) ≡ Ok act → new.dom ≡ old.dom → new.tables ≡ old.tables
    → ((conv : List ℕ) → key_of conv new.keys ≡ option_map noted_entry (key_kept (act ∷ acts) conv)) → NotesFront left (act ∷ acts) new
notes_on line left acts act old new h kept done dom tables keys = record {
  keys = keys;
  server = h.server;
  tells = tells_on line left acts act h.server h.tells kept done;
  dom = dom ∙ h.dom;
  past = h.past;
  tables = tables ∙ h.tables;
  known_past = λ other. h.known_past other ∙ ap (map (knows other)) (sym (past_same acts act kept));
}

-- behind one by which the tables are read again
pub notes_again : (line : Numbered) (left : List Numbered) (acts : List Act) (old new : Noted) → NotesFront (line ∷ left) acts old → line_of line.text ≡ Some Reload
    → NotesTables left old new → NotesFront left (Reloaded ∷ acts) new
notes_again line left acts old new h is t =
    let server : Tables = record { core = record { dom = h.server.core.dom; keys = t.tables.keys; speaks = t.tables.speaks }; bad_key = t.bad_key; bad_speak = t.bad_speak } in
    record {
      keys = λ conv. ap (λ (m : Noted). key_of conv m.keys) t.noted ∙ h.keys conv;
      server = server;
      tells = tells_again line left acts h.server server h.tells is (record { dom = refl; has = t.told });
      dom = ap (λ (m : Noted). m.dom) t.noted ∙ h.dom;
      past = old.tables;
      tables = ap (λ (m : Noted). m.tables) t.noted;
      known_past = all_known (line ∷ left) acts old h (ap (λ (o : Option ScriptLine). told_on ends_tables o (told ends_tables left)) is);
    }

-- ---- behind the last line

dom_done : (acts : List Act) (server : Tables) → Tells [] acts server → server.core.dom ≡ domain acts
dom_done acts server h = elim (cases_Bool (was_asked acts)) [
  | inl asked ↦ h.domain_since asked
  | inr unasked ↦ h.domain_before unasked
]

firsts_same : {Y : Type 0} (a b : Y) (xs ys : List Y) → a ∷ xs ≡ b ∷ ys → a ≡ b
firsts_same a b xs ys e = cc

rests_same : {Y : Type 0} (a b : Y) (xs ys : List Y) → a ∷ xs ≡ b ∷ ys → xs ≡ ys
rests_same a b xs ys e = cc

none_more : {Y : Type 0} (b : Y) (bs : List Y) → [] ≡ b ∷ bs → ⊥
none_more b bs e = cc

at_same : {X Y : Type 0} (f : X → Y) (d : X) (xs ys : List X) (number : ℕ) → map f xs ≡ map f ys → f (slice_index_or xs number d) ≡ f (slice_index_or ys number d)
at_same f d [] [] number same = refl
at_same f d [] (y ∷ ys) number same = absurd (none_more (f y) (map f ys) same)
at_same f d (x ∷ xs) [] number same = absurd (none_more (f x) (map f xs) (sym same))
at_same f d (x ∷ xs) (y ∷ ys) zero same = firsts_same (f x) (f y) (map f xs) (map f ys) same
at_same f d (x ∷ xs) (y ∷ ys) (suc number) same = at_same f d xs ys number (rests_same (f x) (f y) (map f xs) (map f ys) same)

pub notes_done : (acts : List Act) (n : Noted) → NotesFront [] acts n → NotesSo acts n
notes_done acts n h =
    let dom : n.dom ≡ domain acts = h.dom ∙ dom_done acts h.server h.tells in
    let all = all_known [] acts n h refl n.dom in
    record {
      keys = h.keys;
      dom = dom;
      as_many = sym (length-map n.tables (knows n.dom)) ∙ (ap length all ∙ length-map (all_tables acts) (knows n.dom));
      known = λ number. at_same (knows n.dom) (record { keys = []; speaks = [] }) n.tables (all_tables acts) number all ∙ ap (λ d. knows d (tables_at (all_tables acts) number)) dom;
    }
