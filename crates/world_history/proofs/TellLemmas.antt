-- What a run knows of the server that was read ahead, line by line.
use Rattle.std.proofs.Common.{◌≡◌, ℕ, ◌+◌, ◌<◌, List, [], ◌∷◌, ◌++◌, Bool, true, false, not, ◌||◌, length, append_assoc, append-nil, length-append, Option, Some, None, Ok, Err, refl, sym, ap, subst, subst₂, ◌∙◌, arith, inl, inr}
use Rattle.std.specs.Prelude.{◌^◌, is_some, option_map}
use Rattle.std.specs.List.{filter_map}
use Rattle.std.proofs.lemmas.Bool.{cases_Bool, and_parts, or_parts, cond-true, cond-false, eq-eqb, ne_eqb, not_from_true, true≢false}
use Rattle.attr_tuples.specs.Forms.{is_dom}
use Rattle.wire_base.specs.Texts.{is_text}
use Rattle.auth_tables.specs.Lines.{counted, first_bad, first_bad_behind, is_bad}
use Rattle.auth_tables.specs.Keys.{KeyLine as UsersKey, fits_keys, key_of, keys_in}
use Rattle.auth_tables.specs.Speaks.{SpeakLine as HostLine, fits_speaks, may_speak, names_in, names_of, speaks_in}
use Rattle.auth_server.specs.Standing.{Server, knowledge}
use Rattle.world_scripts.specs.Lines.{ScriptLine, Dom, AsKey, AsSpeak, Reload, Node, Restart, Ctl, Open, Start, Read, Write, Answer, NoAnswer, AsGive, Close}
use Rattle.world_scripts.specs.Pieces.{Piece}
use Rattle.world_scripts.specs.Reading.{line_of}
use Rattle.world_scripts.specs.Scripts.{Numbered, script_lines}
use Rattle.world_scripts.proofs.LineLemmas.{line_parts}
use Rattle.world_scripts.proofs.ReadLemmas.{map_parts, some_parts}
use Rattle.auth_program.specs.declared.cause.ScriptCause.{ScriptCause}
use Rattle.auth_program.specs.declared.cause.ScriptCause.TheVariants.{BadLine}
use Rattle.world_history.specs.Acts.{Act, Domain, KeyLine, SpeakLine, Reloaded, Made, Restarted, Told, Opened, Started, Got, Given, Answered, Unanswered, Asked, Closed, domain, key_lines, speak_lines, was_asked, were_used}
use Rattle.world_history.specs.Scripts.{act_of, call_now, fitting, is_bad_line, is_unfit, judged, misnamed, named, spelled}
use Rattle.world_history.specs.Worlds.{known, messages}
use Rattle.world_history.specs.declared.tables.Tables.{Tables}
use Rattle.world_history.specs.Told.{dom_behind, ends_domain, ends_tables, key_line, speak_line, told, told_keys, told_on, told_speaks}
use Rattle.world_history.specs.Servers.{GivesKeys, GivesSpeaks, HasTables, IsToldAgain, IsToldBy, is_next}
use Rattle.world_history.specs.Telling.{AreTelling, IsGood, Tells, reads_again}

-- ---- the line of a table behind good ones

module _ (fits : List (List ℕ) → List ℕ → Bool) where
  good_then : (before lines later : List (List ℕ)) → first_bad_behind fits before lines ≡ None → first_bad_behind fits before (lines ++ later) ≡ first_bad_behind fits (before ++ lines) later
  good_then before [] later h = ap (λ (ls : List (List ℕ)). first_bad_behind fits ls later) (sym (append-nil before))
  good_then before (line ∷ lines) later h = elim (cases_Bool (is_bad fits before line)) [
    | inl bad ↦ absurd (let s : Some (length before + 1) ≡ None = sym (cond-true (is_bad fits before line) (Some (length before + 1)) (first_bad_behind fits (before ++ line ∷ []) lines) bad) ∙ h in cc)
    | inr good ↦
        cond-false (is_bad fits before line) (Some (length before + 1)) (first_bad_behind fits (before ++ line ∷ []) (lines ++ later)) good
        ∙ (good_then (before ++ line ∷ []) lines later (sym (cond-false (is_bad fits before line) (Some (length before + 1)) (first_bad_behind fits (before ++ line ∷ []) lines) good) ∙ h)
        ∙ ap (λ (ls : List (List ℕ)). first_bad_behind fits ls later) (append_assoc before (line ∷ []) lines))
  ]

  -- the first bad one of these isn't among those before them
  is_later : (before lines : List (List ℕ)) (n : ℕ) → first_bad_behind fits before lines ≡ Some n → length before < n
  is_later before [] n h = absurd cc
  is_later before (line ∷ lines) n h = elim (cases_Bool (is_bad fits before line)) [
    | inl bad ↦
        let s : Some (length before + 1) ≡ Some n = sym (cond-true (is_bad fits before line) (Some (length before + 1)) (first_bad_behind fits (before ++ line ∷ []) lines) bad) ∙ h in
        let same : length before + 1 ≡ n = cc in
        omega (arith, same)
    | inr good ↦
        let later = is_later (before ++ line ∷ []) lines n (sym (cond-false (is_bad fits before line) (Some (length before + 1)) (first_bad_behind fits (before ++ line ∷ []) lines) good) ∙ h) in
        omega (arith, later, length-append before (line ∷ []))
  ]

  -- whether the number of the first bad one behind so many is the next
  next_at : (count : ℕ) (o : Option ℕ) → ((n : ℕ) → o ≡ Some n → count + 1 < n) → is_next o count ≡ false
  next_at count None h = refl
  next_at count (Some n) h = ne_eqb n (count + 1) (λ e. let later = h n refl in omega (arith, later, e))

  next_by : (lines left : List (List ℕ)) (line : List ℕ) (t : Bool) → is_bad fits lines line ≡ t → is_next (first_bad_behind fits lines (line ∷ left)) (length lines) ≡ t
  next_by lines left line true is =
      ap (λ (o : Option ℕ). is_next o (length lines)) (cond-true (is_bad fits lines line) (Some (length lines + 1)) (first_bad_behind fits (lines ++ line ∷ []) left) is) ∙ eq-eqb (length lines + 1) (length lines + 1) refl
  next_by lines left line false is =
      ap (λ (o : Option ℕ). is_next o (length lines)) (cond-false (is_bad fits lines line) (Some (length lines + 1)) (first_bad_behind fits (lines ++ line ∷ []) left) is)
      ∙ next_at (length lines) (first_bad_behind fits (lines ++ line ∷ []) left) (λ n e. let later = is_later (lines ++ line ∷ []) left n e in omega (arith, later, length-append lines (line ∷ [])))

  bad_by : (lines : List (List ℕ)) (line : List ℕ) (t : Bool) → is_bad fits lines line ≡ t → is_some (first_bad_behind fits lines (line ∷ [])) ≡ t
  bad_by lines line true is = ap is_some (cond-true (is_bad fits lines line) (Some (length lines + 1)) None is)
  bad_by lines line false is = ap is_some (cond-false (is_bad fits lines line) (Some (length lines + 1)) None is)

  pub bad_is_next : (lines left : List (List ℕ)) (line : List ℕ) (bad : Option ℕ) → IsGood fits lines (line ∷ left) bad → is_bad_line fits lines line ≡ is_next bad (length lines)
  unfolding first_bad
  bad_is_next lines left line bad h =
      ap is_some (good_then [] lines (line ∷ []) h.good)
      ∙ (bad_by lines line (is_bad fits lines line) refl
      ∙ (sym (next_by lines left line (is_bad fits lines line) refl)
      ∙ ap (λ (o : Option ℕ). is_next o (length lines)) (sym (h.is_first ∙ good_then [] lines (line ∷ left) h.good))))

  is_none : (o : Option ℕ) → is_some o ≡ false → o ≡ None
  is_none None h = refl
  is_none (Some n) h = absurd (true≢false h)

  pub good_on : (lines left : List (List ℕ)) (line : List ℕ) (bad : Option ℕ) → IsGood fits lines (line ∷ left) bad → is_bad_line fits lines line ≡ false → IsGood fits (lines ++ line ∷ []) left bad
  good_on lines left line bad h fit = record {
    good = is_none (first_bad fits (lines ++ line ∷ [])) fit;
    is_first = h.is_first ∙ ap (first_bad fits) (sym (append_assoc lines (line ∷ []) left));
    few = subst (λ (ls : List (List ℕ)). length ls < 2 ^ 32) (sym (append_assoc lines (line ∷ []) left)) h.few;
  }

  pub few_on : (lines left : List (List ℕ)) (line : List ℕ) (bad : Option ℕ) → IsGood fits lines (line ∷ left) bad → length lines + 1 < 2 ^ 32
  few_on lines left line bad h = omega (arith, h.few, length-append lines (line ∷ left))

-- ---- the act that a line is

record IsAct (acts : List Act) (read : Option ScriptLine) (act : Act) : Type 0 where
  line : ScriptLine
  is : read ≡ Some line
  does : act_of acts (messages acts) line ≡ Some act
  fit : is_unfit acts act ≡ false

fitting_parts : (acts : List Act) (o : Option Act) (act : Act) → fitting acts o ≡ Ok act → (o ≡ Some act) × (is_unfit acts act ≡ false)
fitting_parts acts None act h = absurd cc
fitting_parts acts (Some other) act h = by_fit (is_unfit acts other) refl
  where
    by_fit : (t : Bool) → is_unfit acts other ≡ t → (Some other ≡ Some act) × (is_unfit acts act ≡ false)
    by_fit true e = absurd (let s : Err BadLine ≡ Ok act = sym (cond-true (is_unfit acts other) (Err BadLine) (Ok other) e) ∙ h in cc)
    by_fit false e =
        let s : Ok other ≡ Ok act = sym (cond-false (is_unfit acts other) (Err BadLine) (Ok other) e) ∙ h in
        let same : other ≡ act = cc in
        (ap Some same, subst (λ (a : Act). is_unfit acts a ≡ false) same e)

pub named_parts : (acts : List Act) (line : ScriptLine) (cause : Option ScriptCause) (act : Act) → named acts line cause ≡ Ok act → (act_of acts (messages acts) line ≡ Some act) × (is_unfit acts act ≡ false)
named_parts acts line None act h = fitting_parts acts (act_of acts (messages acts) line) act h
named_parts acts line (Some cause) act h = absurd cc

judged_parts : (acts : List Act) (read : Option ScriptLine) (act : Act) → judged acts read ≡ Ok act → IsAct acts read act
judged_parts acts None act h = absurd cc
judged_parts acts (Some line) act h =
    let parts = named_parts acts line (misnamed acts line) act h in
    record { line = line; is = refl; does = parts.0; fit = parts.1 }

-- ---- acts that tell the server nothing

record IsAside (acts : List Act) (act : Act) : Type 0 where
  dom : domain (act ∷ acts) ≡ domain acts
  keys : key_lines (act ∷ acts) ≡ key_lines acts
  speaks : speak_lines (act ∷ acts) ≡ speak_lines acts
  asked : was_asked (act ∷ acts) ≡ was_asked acts
  used : were_used (act ∷ acts) ≡ were_used acts

given_aside : (acts : List Act) (conv : List ℕ) (o : Option (List ℕ)) (act : Act) → option_map (λ (given : List ℕ). Given conv given) o ≡ Some act → IsAside acts act
given_aside acts conv o act h = let p = map_parts (λ (given : List ℕ). Given conv given) o act h in subst (IsAside acts) p.2 (record { dom = refl; keys = refl; speaks = refl; asked = refl; used = refl })

answered_aside : (acts : List Act) (conv : List ℕ) (call : ℕ) (o : Option (List ℕ)) (act : Act) → option_map (λ (given : List ℕ). Answered conv given call) o ≡ Some act → IsAside acts act
answered_aside acts conv call o act h = let p = map_parts (λ (given : List ℕ). Answered conv given call) o act h in subst (IsAside acts) p.2 (record { dom = refl; keys = refl; speaks = refl; asked = refl; used = refl })

same_aside : (acts : List Act) (one act : Act) → Some one ≡ Some act → IsAside acts one → IsAside acts act
same_aside acts one act h a = subst (IsAside acts) (some_parts one act h) a

-- what an aside leaves
known_same : (acts : List Act) (act : Act) → IsAside acts act → known (act ∷ acts) ≡ known acts
known_same acts act a = λ i. record {
  dom = a.dom i;
  key = λ user. key_of user (keys_in (counted (a.keys i)));
  speaks = λ host user. may_speak (names_in (speaks_in (counted (a.speaks i))) host) host user;
}

telling_aside : (left rest : List Numbered) (acts : List Act) (act : Act) (tables : Tables) → IsAside acts act
    → told_keys left ≡ told_keys rest → told_speaks left ≡ told_speaks rest
    → AreTelling left acts tables → AreTelling rest (act ∷ acts) tables
telling_aside left rest acts act tables a keys speaks h = record {
  good_keys = subst₂ (λ (ls ms : List (List ℕ)). IsGood fits_keys ls ms tables.bad_key) (sym a.keys) keys h.good_keys;
  good_speaks = subst₂ (λ (ls ms : List (List ℕ)). IsGood fits_speaks ls ms tables.bad_speak) (sym a.speaks) speaks h.good_speaks;
  keys = subst₂ (λ (ls ms : List (List ℕ)). GivesKeys tables.bad_key (ls ++ ms) tables.core.keys) (sym a.keys) keys h.keys;
  speaks = subst₂ (λ (ls ms : List (List ℕ)). GivesSpeaks tables.bad_speak (ls ++ ms) tables.core.speaks) (sym a.speaks) speaks h.speaks;
}

-- lines that tell the server nothing
record IsQuiet (line : ScriptLine) : Type 0 where
  dom : (d : List ℕ) (more : List ScriptLine) → dom_behind d (told_on ends_domain (Some line) more) ≡ dom_behind d more
  keys : (more : List ScriptLine) → filter_map key_line (told_on ends_tables (Some line) more) ≡ filter_map key_line more
  speaks : (more : List ScriptLine) → filter_map speak_line (told_on ends_tables (Some line) more) ≡ filter_map speak_line more

-- what is told of each behind a line
dom_left : (line : Numbered) (left : List Numbered) (l : ScriptLine) (d : List ℕ) → line_of line.text ≡ Some l
    → dom_behind d (told ends_domain (line ∷ left)) ≡ dom_behind d (told_on ends_domain (Some l) (told ends_domain left))
dom_left line left l d is = ap (λ (o : Option ScriptLine). dom_behind d (told_on ends_domain o (told ends_domain left))) is

keys_left : (line : Numbered) (left : List Numbered) (l : ScriptLine) → line_of line.text ≡ Some l
    → told_keys (line ∷ left) ≡ filter_map key_line (told_on ends_tables (Some l) (told ends_tables left))
keys_left line left l is = ap (λ (o : Option ScriptLine). filter_map key_line (told_on ends_tables o (told ends_tables left))) is

speaks_left : (line : Numbered) (left : List Numbered) (l : ScriptLine) → line_of line.text ≡ Some l
    → told_speaks (line ∷ left) ≡ filter_map speak_line (told_on ends_tables (Some l) (told ends_tables left))
speaks_left line left l is = ap (λ (o : Option ScriptLine). filter_map speak_line (told_on ends_tables o (told ends_tables left))) is

-- the domain behind a line that doesn't tell it
domain_aside : (line : Numbered) (left : List Numbered) (acts : List Act) (act : Act) (dom : List ℕ) (l : ScriptLine) → line_of line.text ≡ Some l
    → ((d : List ℕ) (more : List ScriptLine) → dom_behind d (told_on ends_domain (Some l) more) ≡ dom_behind d more) → domain (act ∷ acts) ≡ domain acts
    → dom ≡ dom_behind (domain acts) (told ends_domain (line ∷ left)) → dom ≡ dom_behind (domain (act ∷ acts)) (told ends_domain left)
domain_aside line left acts act dom l is quiet same h =
    h ∙ (dom_left line left l (domain acts) is ∙ (quiet (domain acts) (told ends_domain left) ∙ ap (λ (d : List ℕ). dom_behind d (told ends_domain left)) (sym same)))

aside_tells : (line : Numbered) (left : List Numbered) (acts : List Act) (act : Act) (tables : Tables) (l : ScriptLine) → line_of line.text ≡ Some l
    → IsQuiet l → IsAside acts act → Tells (line ∷ left) acts tables → Tells left (act ∷ acts) tables
aside_tells line left acts act tables l is q a h = record {
  domain_before = λ none. domain_aside line left acts act tables.core.dom l is q.dom a.dom (h.domain_before (sym a.asked ∙ none));
  domain_since = λ asked. h.domain_since (sym a.asked ∙ asked) ∙ sym a.dom;
  before = λ none. telling_aside (line ∷ left) left acts act tables a
      (keys_left line left l is ∙ q.keys (told ends_tables left))
      (speaks_left line left l is ∙ q.speaks (told ends_tables left))
      (h.before (sym a.used ∙ none));
  since = λ used. known_same acts act a ∙ h.since (sym a.used ∙ used);
}

-- ---- lines that tell it something

dom_fit : (acts : List Act) (dom : List ℕ) → is_unfit acts (Domain dom) ≡ false → was_asked acts ≡ false
unfolding is_unfit
dom_fit acts dom h = (or_parts (was_asked acts) (not (is_dom dom)) h).0

key_fit : (acts : List Act) (tuple : List ℕ) → is_unfit acts (KeyLine tuple) ≡ false → (were_used acts ≡ false) × (is_bad_line fits_keys (key_lines acts) tuple ≡ false)
unfolding is_unfit
key_fit acts tuple h = or_parts (were_used acts) (is_bad_line fits_keys (key_lines acts) tuple) h

speak_fit : (acts : List Act) (tuple : List ℕ) → is_unfit acts (SpeakLine tuple) ≡ false → (were_used acts ≡ false) × (is_bad_line fits_speaks (speak_lines acts) tuple ≡ false)
unfolding is_unfit
speak_fit acts tuple h = or_parts (were_used acts) (is_bad_line fits_speaks (speak_lines acts) tuple) h

-- tables that were used were so by a request
pub unasked_unused : (acts : List Act) → was_asked acts ≡ false → were_used acts ≡ false
unasked_unused [] h = refl
unasked_unused (Reloaded ∷ before) h = refl
unasked_unused (Asked session request words ∷ before) h = absurd (true≢false h)
unasked_unused (Domain dom ∷ before) h = unasked_unused before h
unasked_unused (KeyLine tuple ∷ before) h = unasked_unused before h
unasked_unused (SpeakLine tuple ∷ before) h = unasked_unused before h
unasked_unused (Made node ∷ before) h = unasked_unused before h
unasked_unused (Restarted node ∷ before) h = unasked_unused before h
unasked_unused (Told node line ∷ before) h = unasked_unused before h
unasked_unused (Opened node conv ∷ before) h = unasked_unused before h
unasked_unused (Started conv word tuple ∷ before) h = unasked_unused before h
unasked_unused (Got conv ∷ before) h = unasked_unused before h
unasked_unused (Given conv bytes ∷ before) h = unasked_unused before h
unasked_unused (Answered conv bytes call ∷ before) h = unasked_unused before h
unasked_unused (Unanswered conv call ∷ before) h = unasked_unused before h
unasked_unused (Closed conv ∷ before) h = unasked_unused before h

dom_tells : (line : Numbered) (left : List Numbered) (acts : List Act) (dom : List ℕ) (tables : Tables) → line_of line.text ≡ Some (Dom dom)
    → Tells (line ∷ left) acts tables → is_unfit acts (Domain dom) ≡ false → Tells left (Domain dom ∷ acts) tables
dom_tells line left acts dom tables is h fit =
    let unasked = dom_fit acts dom fit in
    let unused = unasked_unused acts unasked in
    let t = h.before unused in
    record {
      domain_before = λ none. h.domain_before unasked ∙ dom_left line left (Dom dom) (domain acts) is;
      domain_since = λ asked. absurd (true≢false (sym asked ∙ unasked));
      before = λ none. record {
        good_keys = subst (λ (ls : List (List ℕ)). IsGood fits_keys (key_lines acts) ls tables.bad_key) (keys_left line left (Dom dom) is) t.good_keys;
        good_speaks = subst (λ (ls : List (List ℕ)). IsGood fits_speaks (speak_lines acts) ls tables.bad_speak) (speaks_left line left (Dom dom) is) t.good_speaks;
        keys = subst (λ (ls : List (List ℕ)). GivesKeys tables.bad_key (key_lines acts ++ ls) tables.core.keys) (keys_left line left (Dom dom) is) t.keys;
        speaks = subst (λ (ls : List (List ℕ)). GivesSpeaks tables.bad_speak (speak_lines acts ++ ls) tables.core.speaks) (speaks_left line left (Dom dom) is) t.speaks;
      };
      since = λ used. absurd (true≢false (sym used ∙ unused));
    }

key_good : (line : Numbered) (left : List Numbered) (acts : List Act) (tuple : List ℕ) (tables : Tables) → line_of line.text ≡ Some (AsKey tuple)
    → AreTelling (line ∷ left) acts tables → IsGood fits_keys (key_lines acts) (tuple ∷ told_keys left) tables.bad_key
key_good line left acts tuple tables is t =
    subst (λ (ls : List (List ℕ)). IsGood fits_keys (key_lines acts) ls tables.bad_key) (keys_left line left (AsKey tuple) is) t.good_keys

speak_good : (line : Numbered) (left : List Numbered) (acts : List Act) (tuple : List ℕ) (tables : Tables) → line_of line.text ≡ Some (AsSpeak tuple)
    → AreTelling (line ∷ left) acts tables → IsGood fits_speaks (speak_lines acts) (tuple ∷ told_speaks left) tables.bad_speak
speak_good line left acts tuple tables is t =
    subst (λ (ls : List (List ℕ)). IsGood fits_speaks (speak_lines acts) ls tables.bad_speak) (speaks_left line left (AsSpeak tuple) is) t.good_speaks

key_tells : (line : Numbered) (left : List Numbered) (acts : List Act) (tuple : List ℕ) (tables : Tables) → line_of line.text ≡ Some (AsKey tuple)
    → Tells (line ∷ left) acts tables → is_unfit acts (KeyLine tuple) ≡ false → Tells left (KeyLine tuple ∷ acts) tables
key_tells line left acts tuple tables is h fit =
    let parts = key_fit acts tuple fit in
    let t = h.before parts.0 in
    record {
      domain_before = λ none. domain_aside line left acts (KeyLine tuple) tables.core.dom (AsKey tuple) is (λ d more. refl) refl (h.domain_before none);
      domain_since = λ asked. h.domain_since asked;
      before = λ none. record {
        good_keys = good_on fits_keys (key_lines acts) (told_keys left) tuple tables.bad_key (key_good line left acts tuple tables is t) parts.1;
        good_speaks = subst (λ (ls : List (List ℕ)). IsGood fits_speaks (speak_lines acts) ls tables.bad_speak) (speaks_left line left (AsKey tuple) is) t.good_speaks;
        keys = subst (λ (ls : List (List ℕ)). GivesKeys tables.bad_key ls tables.core.keys) (ap (λ (ls : List (List ℕ)). key_lines acts ++ ls) (keys_left line left (AsKey tuple) is) ∙ sym (append_assoc (key_lines acts) (tuple ∷ []) (told_keys left))) t.keys;
        speaks = subst (λ (ls : List (List ℕ)). GivesSpeaks tables.bad_speak (speak_lines acts ++ ls) tables.core.speaks) (speaks_left line left (AsKey tuple) is) t.speaks;
      };
      since = λ used. absurd (true≢false (sym used ∙ parts.0));
    }

speak_tells : (line : Numbered) (left : List Numbered) (acts : List Act) (tuple : List ℕ) (tables : Tables) → line_of line.text ≡ Some (AsSpeak tuple)
    → Tells (line ∷ left) acts tables → is_unfit acts (SpeakLine tuple) ≡ false → Tells left (SpeakLine tuple ∷ acts) tables
speak_tells line left acts tuple tables is h fit =
    let parts = speak_fit acts tuple fit in
    let t = h.before parts.0 in
    record {
      domain_before = λ none. domain_aside line left acts (SpeakLine tuple) tables.core.dom (AsSpeak tuple) is (λ d more. refl) refl (h.domain_before none);
      domain_since = λ asked. h.domain_since asked;
      before = λ none. record {
        good_keys = subst (λ (ls : List (List ℕ)). IsGood fits_keys (key_lines acts) ls tables.bad_key) (keys_left line left (AsSpeak tuple) is) t.good_keys;
        good_speaks = good_on fits_speaks (speak_lines acts) (told_speaks left) tuple tables.bad_speak (speak_good line left acts tuple tables is t) parts.1;
        keys = subst (λ (ls : List (List ℕ)). GivesKeys tables.bad_key (key_lines acts ++ ls) tables.core.keys) (keys_left line left (AsSpeak tuple) is) t.keys;
        speaks = subst (λ (ls : List (List ℕ)). GivesSpeaks tables.bad_speak ls tables.core.speaks) (ap (λ (ls : List (List ℕ)). speak_lines acts ++ ls) (speaks_left line left (AsSpeak tuple) is) ∙ sym (append_assoc (speak_lines acts) (tuple ∷ []) (told_speaks left))) t.speaks;
      };
      since = λ used. absurd (true≢false (sym used ∙ parts.0));
    }

-- ---- a request

-- all was told, and no line was bad
pub keys_known : (lines left : List (List ℕ)) (bad : Option ℕ) (table : List UsersKey) → left ≡ [] → IsGood fits_keys lines left bad → GivesKeys bad (lines ++ left) table
    → (user : List ℕ) → key_of user (keys_in (counted lines)) ≡ key_of user table
keys_known lines left bad table none good gives user =
    let whole : lines ++ left ≡ lines = ap (λ (ls : List (List ℕ)). lines ++ ls) none ∙ append-nil lines in
    let unbad : bad ≡ None = good.is_first ∙ (ap (first_bad fits_keys) whole ∙ good.good) in
    let same : GivesKeys None lines table = subst₂ (λ (o : Option ℕ) (ls : List (List ℕ)). GivesKeys o ls table) unbad whole gives in
    sym (same user)

pub speaks_known : (lines left : List (List ℕ)) (bad : Option ℕ) (table : List HostLine) → left ≡ [] → IsGood fits_speaks lines left bad → GivesSpeaks bad (lines ++ left) table
    → (host : List ℕ) → names_in (speaks_in (counted lines)) host ≡ names_of host table
speaks_known lines left bad table none good gives host =
    let whole : lines ++ left ≡ lines = ap (λ (ls : List (List ℕ)). lines ++ ls) none ∙ append-nil lines in
    let unbad : bad ≡ None = good.is_first ∙ (ap (first_bad fits_speaks) whole ∙ good.good) in
    let same : GivesSpeaks None lines table = subst₂ (λ (o : Option ℕ) (ls : List (List ℕ)). GivesSpeaks o ls table) unbad whole gives in
    sym (same host)

known_by : (acts : List Act) (core : Server) → domain acts ≡ core.dom → ((user : List ℕ) → key_of user (keys_in (counted (key_lines acts))) ≡ key_of user core.keys)
    → ((host : List ℕ) → names_in (speaks_in (counted (speak_lines acts))) host ≡ names_of host core.speaks) → known acts ≡ knowledge core
known_by acts core dom keys speaks = λ i. record {
  dom = dom i;
  key = λ user. keys user i;
  speaks = λ host user. may_speak (speaks host i) host user;
}

telling_known : (left : List Numbered) (acts : List Act) (tables : Tables) → told ends_tables left ≡ [] → tables.core.dom ≡ domain acts → AreTelling left acts tables
    → known acts ≡ knowledge tables.core
telling_known left acts tables none dom t = known_by acts tables.core
    (sym dom)
    (keys_known (key_lines acts) (told_keys left) tables.bad_key tables.core.keys (ap (filter_map key_line) none) t.good_keys t.keys)
    (speaks_known (speak_lines acts) (told_speaks left) tables.bad_speak tables.core.speaks (ap (filter_map speak_line) none) t.good_speaks t.speaks)

-- at a request no domain is left to be told
asked_domain : (line : Numbered) (left : List Numbered) (acts : List Act) (session : List ℕ) (request : List Piece) (first second third : List ℕ) (tables : Tables)
    → Tells (line ∷ left) acts tables → line_of line.text ≡ Some (AsGive session request first second third) → tables.core.dom ≡ domain acts
asked_domain line left acts session request first second third tables h is = elim (cases_Bool (was_asked acts)) [
  | inl asked ↦ h.domain_since asked
  | inr unasked ↦ h.domain_before unasked ∙ dom_left line left (AsGive session request first second third) (domain acts) is
]

pub asked_known : (line : Numbered) (left : List Numbered) (acts : List Act) (session : List ℕ) (request : List Piece) (first second third : List ℕ) (tables : Tables)
    → Tells (line ∷ left) acts tables → line_of line.text ≡ Some (AsGive session request first second third) → known acts ≡ knowledge tables.core
asked_known line left acts session request first second third tables h is = elim (cases_Bool (were_used acts)) [
  | inl used ↦ h.since used
  | inr unused ↦ telling_known (line ∷ left) acts tables (ap (λ (o : Option ScriptLine). told_on ends_tables o (told ends_tables left)) is)
      (asked_domain line left acts session request first second third tables h is) (h.before unused)
]

asked_tells : (left : List Numbered) (acts : List Act) (session request : List ℕ) (words : List (List ℕ)) (tables : Tables) → tables.core.dom ≡ domain acts → known acts ≡ knowledge tables.core
    → Tells left (Asked session request words ∷ acts) tables
asked_tells left acts session request words tables dom same = record {
  domain_before = λ none. absurd (true≢false none);
  domain_since = λ asked. dom;
  before = λ none. absurd (true≢false none);
  since = λ used. same;
}

-- ---- tables that are read again

pub tells_again : (line : Numbered) (left : List Numbered) (acts : List Act) (old new : Tables) → Tells (line ∷ left) acts old → line_of line.text ≡ Some Reload
    → IsToldAgain left old new → Tells left (Reloaded ∷ acts) new
unfolding first_bad
tells_again line left acts old new h is t = record {
  domain_before = λ none. t.dom ∙ domain_aside line left acts Reloaded old.core.dom Reload is (λ d more. refl) refl (h.domain_before none);
  domain_since = λ asked. t.dom ∙ h.domain_since asked;
  before = λ none. record {
    good_keys = record { good = refl; is_first = t.has.first_key; few = t.has.few_keys };
    good_speaks = record { good = refl; is_first = t.has.first_speak; few = t.has.few_speaks };
    keys = t.has.give_keys;
    speaks = t.has.give_speaks;
  };
  since = λ used. absurd (true≢false (sym used));
}

-- ---- each line

tells_by : (line : Numbered) (left : List Numbered) (acts : List Act) (act : Act) (tables : Tables) (l : ScriptLine) → line_of line.text ≡ Some l
    → Tells (line ∷ left) acts tables → reads_again act ≡ false → act_of acts (messages acts) l ≡ Some act → is_unfit acts act ≡ false → Tells left (act ∷ acts) tables
tells_by line left acts act tables (Dom dom) is h kept does fit =
    let same : Domain dom ≡ act = some_parts (Domain dom) act does in
    subst (λ (a : Act). Tells left (a ∷ acts) tables) same (dom_tells line left acts dom tables is h (subst (λ (a : Act). is_unfit acts a ≡ false) (sym same) fit))
tells_by line left acts act tables (AsKey tuple) is h kept does fit =
    let same : KeyLine tuple ≡ act = some_parts (KeyLine tuple) act does in
    subst (λ (a : Act). Tells left (a ∷ acts) tables) same (key_tells line left acts tuple tables is h (subst (λ (a : Act). is_unfit acts a ≡ false) (sym same) fit))
tells_by line left acts act tables (AsSpeak tuple) is h kept does fit =
    let same : SpeakLine tuple ≡ act = some_parts (SpeakLine tuple) act does in
    subst (λ (a : Act). Tells left (a ∷ acts) tables) same (speak_tells line left acts tuple tables is h (subst (λ (a : Act). is_unfit acts a ≡ false) (sym same) fit))
tells_by line left acts act tables Reload is h kept does fit = absurd (true≢false (ap reads_again (some_parts Reloaded act does) ∙ kept))
tells_by line left acts act tables (Node node) is h kept does fit =
    aside_tells line left acts act tables (Node node) is (record { dom = λ d more. refl; keys = λ more. refl; speaks = λ more. refl }) (same_aside acts (Made node) act does (record { dom = refl; keys = refl; speaks = refl; asked = refl; used = refl })) h
tells_by line left acts act tables (Restart node) is h kept does fit =
    aside_tells line left acts act tables (Restart node) is (record { dom = λ d more. refl; keys = λ more. refl; speaks = λ more. refl }) (same_aside acts (Restarted node) act does (record { dom = refl; keys = refl; speaks = refl; asked = refl; used = refl })) h
tells_by line left acts act tables (Ctl node text) is h kept does fit =
    aside_tells line left acts act tables (Ctl node text) is (record { dom = λ d more. refl; keys = λ more. refl; speaks = λ more. refl }) (same_aside acts (Told node text) act does (record { dom = refl; keys = refl; speaks = refl; asked = refl; used = refl })) h
tells_by line left acts act tables (Open node conv) is h kept does fit =
    aside_tells line left acts act tables (Open node conv) is (record { dom = λ d more. refl; keys = λ more. refl; speaks = λ more. refl }) (same_aside acts (Opened node conv) act does (record { dom = refl; keys = refl; speaks = refl; asked = refl; used = refl })) h
tells_by line left acts act tables (Start conv word tuple) is h kept does fit =
    aside_tells line left acts act tables (Start conv word tuple) is (record { dom = λ d more. refl; keys = λ more. refl; speaks = λ more. refl }) (same_aside acts (Started conv word tuple) act does (record { dom = refl; keys = refl; speaks = refl; asked = refl; used = refl })) h
tells_by line left acts act tables (Read conv) is h kept does fit =
    aside_tells line left acts act tables (Read conv) is (record { dom = λ d more. refl; keys = λ more. refl; speaks = λ more. refl }) (same_aside acts (Got conv) act does (record { dom = refl; keys = refl; speaks = refl; asked = refl; used = refl })) h
tells_by line left acts act tables (Write conv bytes) is h kept does fit =
    aside_tells line left acts act tables (Write conv bytes) is (record { dom = λ d more. refl; keys = λ more. refl; speaks = λ more. refl }) (given_aside acts conv (spelled (messages acts) bytes) act does) h
tells_by line left acts act tables (Answer conv bytes) is h kept does fit =
    aside_tells line left acts act tables (Answer conv bytes) is (record { dom = λ d more. refl; keys = λ more. refl; speaks = λ more. refl }) (answered_aside acts conv (call_now acts conv) (spelled (messages acts) bytes) act does) h
tells_by line left acts act tables (NoAnswer conv) is h kept does fit =
    aside_tells line left acts act tables (NoAnswer conv) is (record { dom = λ d more. refl; keys = λ more. refl; speaks = λ more. refl }) (same_aside acts (Unanswered conv (call_now acts conv)) act does (record { dom = refl; keys = refl; speaks = refl; asked = refl; used = refl })) h
tells_by line left acts act tables (AsGive session bytes first second third) is h kept does fit =
    let p = map_parts (λ (given : List ℕ). Asked session given (first ∷ second ∷ third ∷ [])) (spelled (messages acts) bytes) act does in
    subst (λ (a : Act). Tells left (a ∷ acts) tables) p.2 (asked_tells left acts session p.0 (first ∷ second ∷ third ∷ []) tables (asked_domain line left acts session bytes first second third tables h is) (asked_known line left acts session bytes first second third tables h is))
tells_by line left acts act tables (Close conv) is h kept does fit =
    aside_tells line left acts act tables (Close conv) is (record { dom = λ d more. refl; keys = λ more. refl; speaks = λ more. refl }) (same_aside acts (Closed conv) act does (record { dom = refl; keys = refl; speaks = refl; asked = refl; used = refl })) h

pub tells_on : (line : Numbered) (left : List Numbered) (acts : List Act) (act : Act) (tables : Tables) → Tells (line ∷ left) acts tables
    → reads_again act ≡ false → judged acts (line_of line.text) ≡ Ok act → Tells left (act ∷ acts) tables
tells_on line left acts act tables h kept done =
    let p = judged_parts acts (line_of line.text) act done in
    tells_by line left acts act tables p.line p.is h kept p.does p.fit

pub tells_first : (script : List ℕ) (tables : Tables) → IsToldBy (script_lines script) tables → Tells (script_lines script) [] tables
unfolding first_bad
tells_first script tables h = record {
  domain_before = λ none. h.dom;
  domain_since = λ asked. absurd (true≢false (sym asked));
  before = λ none. record {
    good_keys = record { good = refl; is_first = h.has.first_key; few = h.has.few_keys };
    good_speaks = record { good = refl; is_first = h.has.first_speak; few = h.has.few_speaks };
    keys = h.has.give_keys;
    speaks = h.has.give_speaks;
  };
  since = λ used. absurd (true≢false (sym used));
}

-- ---- which lines are refused

or_none : (a b : Bool) → b ≡ false → (a || b) ≡ a
or_none true b h = refl
or_none false b h = h

or_same : (a x y : Bool) → (a ≡ false → x ≡ y) → (a || x) ≡ (a || y)
or_same true x y f = refl
or_same false x y f = f refl

pub dom_told : (line : Numbered) (acts : List Act) (dom : List ℕ) → line_of line.text ≡ Some (Dom dom) → is_unfit acts (Domain dom) ≡ was_asked acts
unfolding is_unfit
dom_told line acts dom is = or_none (was_asked acts) (not (is_dom dom)) (not_from_true (is_dom dom) (and_parts (is_text dom) (is_dom dom) (line_parts line.text (Dom dom) is).formed).1)

pub key_told : (line : Numbered) (left : List Numbered) (acts : List Act) (tuple : List ℕ) (tables : Tables) → Tells (line ∷ left) acts tables
    → line_of line.text ≡ Some (AsKey tuple) → is_unfit acts (KeyLine tuple) ≡ were_used acts || is_next tables.bad_key (length (key_lines acts))
unfolding is_unfit
key_told line left acts tuple tables h is = or_same (were_used acts) (is_bad_line fits_keys (key_lines acts) tuple) (is_next tables.bad_key (length (key_lines acts)))
    (λ unused. bad_is_next fits_keys (key_lines acts) (told_keys left) tuple tables.bad_key (key_good line left acts tuple tables is (h.before unused)))

pub speak_told : (line : Numbered) (left : List Numbered) (acts : List Act) (tuple : List ℕ) (tables : Tables) → Tells (line ∷ left) acts tables
    → line_of line.text ≡ Some (AsSpeak tuple) → is_unfit acts (SpeakLine tuple) ≡ were_used acts || is_next tables.bad_speak (length (speak_lines acts))
unfolding is_unfit
speak_told line left acts tuple tables h is = or_same (were_used acts) (is_bad_line fits_speaks (speak_lines acts) tuple) (is_next tables.bad_speak (length (speak_lines acts)))
    (λ unused. bad_is_next fits_speaks (speak_lines acts) (told_speaks left) tuple tables.bad_speak (speak_good line left acts tuple tables is (h.before unused)))

pub keys_few : (line : Numbered) (left : List Numbered) (acts : List Act) (tuple : List ℕ) (tables : Tables) → Tells (line ∷ left) acts tables
    → line_of line.text ≡ Some (AsKey tuple) → were_used acts ≡ false → length (key_lines acts) + 1 < 2 ^ 32
keys_few line left acts tuple tables h is unused = few_on fits_keys (key_lines acts) (told_keys left) tuple tables.bad_key (key_good line left acts tuple tables is (h.before unused))

pub speaks_few : (line : Numbered) (left : List Numbered) (acts : List Act) (tuple : List ℕ) (tables : Tables) → Tells (line ∷ left) acts tables
    → line_of line.text ≡ Some (AsSpeak tuple) → were_used acts ≡ false → length (speak_lines acts) + 1 < 2 ^ 32
speaks_few line left acts tuple tables h is unused = few_on fits_speaks (speak_lines acts) (told_speaks left) tuple tables.bad_speak (speak_good line left acts tuple tables is (h.before unused))
