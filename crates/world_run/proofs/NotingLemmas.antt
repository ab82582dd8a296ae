-- What is noted behind a line.
use Rattle.std.proofs.Common.{◌≡◌, ℕ, List, [], ◌∷◌, Bool, true, false, cond, Option, Some, None, Result, Ok, refl, sym, ap, subst, ◌∙◌}
use Rattle.std.specs.Prelude.{is_some, option_map}
use Rattle.std.specs.Str.{bytes_eq}
use Rattle.std.proofs.lemmas.Bool.{false≢true, true≢false}
use Rattle.auth_program.specs.declared.cause.ScriptCause.{ScriptCause}
use Rattle.key_lists.specs.Lists.{KeyEntry}
use Rattle.agent_history.specs.Conversations.{chosen_at}
use Rattle.agent_history.specs.Histories.{deeds}
use Rattle.wire_histories.specs.Noted.{Noted}
use Rattle.world_scripts.specs.Lines.{ScriptLine}
use Rattle.world_scripts.specs.Lines as l
use Rattle.world_scripts.specs.Scripts.{Numbered}
use Rattle.world_scripts.proofs.ReadLemmas.{map_parts, some_parts}
use Rattle.world_history.specs.Acts.{Act, Talk, Domain, KeyLine, SpeakLine, Reloaded, Made, Restarted, Told, Opened, Started, Got, Given, Answered, Unanswered, Asked, Closed, agent_of, talk_of}
use Rattle.world_history.specs.Noting.{chosen_by, chosen_now, conv_asked, kept_behind, key_kept, noted_entry}
use Rattle.world_history.specs.NotingFronts.{NotesFront, NotesKey, NotesTables}
use Rattle.world_history.specs.Scripts.{act_of, call_now, judged, misnamed, spelled}
use Rattle.world_history.specs.Telling.{reads_again}
use Rattle.world_history.specs.Worlds.{history, messages}
use Rattle.world_history.proofs.TellLemmas.{named_parts}
use Rattle.world_history.proofs.NoteLemmas.{notes_again, notes_on}
use Rattle.world_run.specs.declared.named_talks.Talk.{Talk as Kept}
use Rattle.world_run.specs.declared.run.Run.{Run}
use Rattle.world_run.specs.Names.{still_open}
use Rattle.world_run.specs.Noting.{NotesLine, NotesTalk, is_reload, line_asks}
use Rattle.world_run.specs.Standing.{TalkIs}
use Rattle.world_run.proofs.RunLemmas.{found_open, not_open}

-- ---- the act that a line is

abbrev AsLine : ScriptLine → Act → Type 0
AsLine line act = (conv_asked act ≡ line_asks line) × (reads_again act ≡ is_reload line)

as_act : (line : ScriptLine) (one act : Act) → Some one ≡ Some act → AsLine line one → AsLine line act
as_act line one act is h = subst (AsLine line) (some_parts one act is) h

as_line : (acts : List Act) (recorded : List (List ℕ)) (line : ScriptLine) (act : Act) → act_of acts recorded line ≡ Some act → AsLine line act
as_line acts recorded (l.Dom dom) act does = as_act (l.Dom dom) (Domain dom) act does (refl, refl)
as_line acts recorded (l.AsKey tuple) act does = as_act (l.AsKey tuple) (KeyLine tuple) act does (refl, refl)
as_line acts recorded (l.AsSpeak tuple) act does = as_act (l.AsSpeak tuple) (SpeakLine tuple) act does (refl, refl)
as_line acts recorded l.Reload act does = as_act l.Reload Reloaded act does (refl, refl)
as_line acts recorded (l.Node node) act does = as_act (l.Node node) (Made node) act does (refl, refl)
as_line acts recorded (l.Restart node) act does = as_act (l.Restart node) (Restarted node) act does (refl, refl)
as_line acts recorded (l.Ctl node line) act does = as_act (l.Ctl node line) (Told node line) act does (refl, refl)
as_line acts recorded (l.Open node conv) act does = as_act (l.Open node conv) (Opened node conv) act does (refl, refl)
as_line acts recorded (l.Start conv word tuple) act does = as_act (l.Start conv word tuple) (Started conv word tuple) act does (refl, refl)
as_line acts recorded (l.Read conv) act does = as_act (l.Read conv) (Got conv) act does (refl, refl)
as_line acts recorded (l.Write conv bytes) act does =
    let p = map_parts (λ (given : List ℕ). Given conv given) (spelled recorded bytes) act does in subst (AsLine (l.Write conv bytes)) p.2 (refl, refl)
as_line acts recorded (l.Answer conv bytes) act does =
    let p = map_parts (λ (given : List ℕ). Answered conv given (call_now acts conv)) (spelled recorded bytes) act does in subst (AsLine (l.Answer conv bytes)) p.2 (refl, refl)
as_line acts recorded (l.NoAnswer conv) act does = as_act (l.NoAnswer conv) (Unanswered conv (call_now acts conv)) act does (refl, refl)
as_line acts recorded (l.AsGive session bytes first second third) act does =
    let p = map_parts (λ (given : List ℕ). Asked session given (first ∷ second ∷ third ∷ [])) (spelled recorded bytes) act does in subst (AsLine (l.AsGive session bytes first second third)) p.2 (refl, refl)
as_line acts recorded (l.Close conv) act does = as_act (l.Close conv) (Closed conv) act does (refl, refl)

judged_line : (acts : List Act) (line : ScriptLine) (act : Act) → judged acts (Some line) ≡ Ok act → AsLine line act
judged_line acts line act fits = as_line acts (messages acts) line act (named_parts acts line (misnamed acts line) act fits).0

reload_line : (line : ScriptLine) → is_reload line ≡ true → line ≡ l.Reload
reload_line (l.Dom dom) is = absurd (false≢true is)
reload_line (l.AsKey tuple) is = absurd (false≢true is)
reload_line (l.AsSpeak tuple) is = absurd (false≢true is)
reload_line l.Reload is = refl
reload_line (l.Node node) is = absurd (false≢true is)
reload_line (l.Restart node) is = absurd (false≢true is)
reload_line (l.Ctl node text) is = absurd (false≢true is)
reload_line (l.Open node conv) is = absurd (false≢true is)
reload_line (l.Start conv word tuple) is = absurd (false≢true is)
reload_line (l.Read conv) is = absurd (false≢true is)
reload_line (l.Write conv bytes) is = absurd (false≢true is)
reload_line (l.Answer conv bytes) is = absurd (false≢true is)
reload_line (l.NoAnswer conv) is = absurd (false≢true is)
reload_line (l.AsGive session bytes first second third) is = absurd (false≢true is)
reload_line (l.Close conv) is = absurd (false≢true is)

again_act : (act : Act) → reads_again act ≡ true → act ≡ Reloaded
again_act (Domain dom) is = absurd (false≢true is)
again_act (KeyLine tuple) is = absurd (false≢true is)
again_act (SpeakLine tuple) is = absurd (false≢true is)
again_act Reloaded is = refl
again_act (Made node) is = absurd (false≢true is)
again_act (Restarted node) is = absurd (false≢true is)
again_act (Told node line) is = absurd (false≢true is)
again_act (Opened node conv) is = absurd (false≢true is)
again_act (Started conv word tuple) is = absurd (false≢true is)
again_act (Got conv) is = absurd (false≢true is)
again_act (Given conv bytes) is = absurd (false≢true is)
again_act (Answered conv bytes call) is = absurd (false≢true is)
again_act (Unanswered conv call) is = absurd (false≢true is)
again_act (Asked session request words) is = absurd (false≢true is)
again_act (Closed conv) is = absurd (false≢true is)

-- ---- lines

pub noted_reload : (left : List Numbered) (line : ScriptLine) (run : Run) (old new : Noted) → is_reload line ≡ true → NotesTables left old new → NotesLine left line run old new
noted_reload left line run old new again t = λ before acts act kept is fits stands h.
    let j = judged_line acts line act fits in
    subst (λ (a : Act). NotesFront left (a ∷ acts) new) (sym (again_act act (j.1 ∙ again)))
    (notes_again before left acts old new h (is ∙ ap (λ (x : ScriptLine). Some x) (reload_line line again)) t)

entry_if : (b : Bool) (x y : Option KeyEntry) → cond b (option_map noted_entry x) (option_map noted_entry y) ≡ option_map noted_entry (cond b x y)
entry_if true x y = refl
entry_if false x y = refl

pub noted_asked : (left : List Numbered) (line : ScriptLine) (conv : List ℕ) (run : Run) (old new : Noted) → is_reload line ≡ false → line_asks line ≡ Some conv
    → NotesTalk conv run old new → NotesLine left line run old new
noted_asked left line conv run old new kept_on asks t = λ before acts act kept is fits stands h.
    let j = judged_line acts line act fits in
    let k = t left (act ∷ acts) kept stands in
    notes_on before left acts act old new h (j.1 ∙ kept_on) (ap (judged acts) is ∙ fits) k.dom k.tables (λ other.
    k.keys other
    ∙ (ap (λ o. cond (bytes_eq conv other) (option_map noted_entry (chosen_now (act ∷ acts) conv)) o) (h.keys other)
    ∙ (entry_if (bytes_eq conv other) (chosen_now (act ∷ acts) conv) (key_kept acts other)
    ∙ ap (λ (o : Option (List ℕ)). option_map noted_entry (kept_behind (act ∷ acts) other o (key_kept acts other))) (sym (j.0 ∙ asks)))))

pub noted_aside : (left : List Numbered) (line : ScriptLine) (run : Run) (old : Noted) → is_reload line ≡ false → line_asks line ≡ None → NotesLine left line run old old
noted_aside left line run old kept_on asks = λ before acts act kept is fits stands h.
    let j = judged_line acts line act fits in
    notes_on before left acts act old old h (j.1 ∙ kept_on) (ap (judged acts) is ∙ fits) refl refl (λ other.
    h.keys other ∙ ap (λ (o : Option (List ℕ)). option_map noted_entry (kept_behind (act ∷ acts) other o (key_kept acts other))) (sym (j.0 ∙ asks)))

-- ---- conversations

is_none : {X : Type 0} (o : Option X) → is_some o ≡ false → o ≡ None
is_none None h = refl
is_none (Some x) h = absurd (true≢false h)

pub talk_open : (acts : List Act) (conv : List ℕ) (t : Kept) (o : Option (Option Kept)) (old new : Noted) → still_open o ≡ Some t → TalkIs acts conv o
    → NotesKey conv (chosen_at (deeds (history acts (agent_of acts t.node))) 0 t.fid) old new → NotesKey conv (chosen_now acts conv) old new
talk_open acts conv t o old new found is k =
    subst (λ (talk : Option Talk). NotesKey conv (chosen_by acts talk) old new) (sym (found_open acts conv t o found is).found) k

pub talk_shut : (acts : List Act) (conv : List ℕ) (o : Option (Option Kept)) (old new : Noted) → still_open o ≡ None → TalkIs acts conv o
    → NotesKey conv None old new → NotesKey conv (chosen_now acts conv) old new
talk_shut acts conv o old new found is k =
    subst (λ (talk : Option Talk). NotesKey conv (chosen_by acts talk) old new) (sym (is_none (talk_of acts conv) (not_open acts conv o found is))) k

pub acts_same : (one act : Act) (r : Result Act ScriptCause) → r ≡ Ok one → r ≡ Ok act → one ≡ act
acts_same one act r is it = cc
