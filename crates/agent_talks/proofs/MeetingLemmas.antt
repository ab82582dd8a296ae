-- A request is carried out, a user replies, or the authentication server is done with a question: the lines of the log that
-- follow.
use Rattle.std.proofs.Common.{◌≡◌, ℕ, List, ◌∷◌, Bool, true, false, Option, Some, None, refl, sym, ap, subst, ◌∙◌}
use Rattle.std.specs.Prelude.{is_some, option_map, IfSome}
use Rattle.std.proofs.lemmas.Bool.{false≢true}
use Rattle.attr_tuples.specs.declared.attr.Attr.{Attr}
use Rattle.roles.specs.declared.need.Outcome.{Outcome}
use Rattle.side_files.specs.Calls as side
use Rattle.side_files.specs.declared.line.PromptKind.{PromptKind}
use Rattle.side_files.specs.declared.line.PromptKind.TheVariants as k
use Rattle.talks.specs.Protocols.{ends}
use Rattle.talks.specs.Calls.{Call, CarriedOut}
use Rattle.talks.specs.Lines.{is_end}
use Rattle.talks.specs.Standings.{Begun, Phase, Resting, Waiting, Seeking, OnConfirm, OnNeedkey, OnServer, Kept, Standing, outcome_of, outcome_unless, waits_for_user}
use Rattle.conversations.specs.Shown.{has_request}
use Rattle.conversations.specs.Asking.{template_begun}
use Rattle.agent_history.specs.Deeds.{Deed, OfPrompts, is_debug}
use Rattle.agent_history.specs.Conversations as told
use Rattle.agent_history.specs.Conversations.{standing_of}
use Rattle.agent_history.specs.Requests.{said_by}
use Rattle.agent_talks.specs.Speaks.{carried_in, carried_talk, stands, talked, talked_by}
use Rattle.agent_talks.proofs.AskLemmas.{is_asked}
use Rattle.agent_talks.specs.Asking.{AskingTalks}
use Rattle.agent_talks.specs.Asking.{Tells}
use Rattle.agent_talks.specs.declared.standing.Conversations.{Conversations}
use Rattle.agent_talks.specs.Ahead.{IsMadeFor, ShowsOf, coming_by, new_by, new_template, start_by, template_coming}
use Rattle.agent_talks.specs.Logging.{AskerTold, CanEnd, IsTold, Logs, SameOthers, asking_of, carried_logged, carried_logged_in, line_at, logged_by, logged_talk, talks_in, with_ends}
use Rattle.agent_talks.proofs.LineLemmas.{of_template, own_line, started_begun}
use Rattle.agent_talks.proofs.LogLemmas.{talk_logs}
use Rattle.agent_talks.proofs.SearchedLaws.{carried_talk_of, talked_of}
use Rattle.agent_talks.proofs.TemplateLaws.{IsOf, carries_out}

-- ---- a request is carried out

-- what has started isn't told again
pub none_starts : (debug : Bool) (conv : ℕ) (outcome : Outcome) (template : Option (List Attr)) → start_by debug conv (Some outcome) template ≡ None
none_starts true conv outcome template = refl
none_starts false conv outcome template = refl

waits_not : (p : Phase) → has_request p ≡ true → waits_for_user p ≡ false
waits_not (Waiting request) has = refl
waits_not Resting has = refl
waits_not Seeking has = absurd (false≢true has)
waits_not (OnConfirm serial) has = absurd (false≢true has)
waits_not OnNeedkey has = absurd (false≢true has)
waits_not OnServer has = refl
waits_not (Kept answer) has = refl

new_in : (debug : Bool) (conv : ℕ) (starting waits : Bool) (begun : Option Begun) (p : Phase) → waits ≡ false
    → start_by debug conv (elim starting [ true ↦ outcome_unless waits begun | false ↦ option_map (λ b. ends b.start b.moves) begun ]) (new_by begun p) ≡ start_by debug conv (elim starting [ true ↦ outcome_unless waits begun | false ↦ option_map (λ b. ends b.start b.moves) begun ]) (coming_by begun p)
new_in debug conv starting waits None p e = refl
new_in debug conv true true (Some b) p e = absurd (false≢true (sym e))
new_in debug conv true false (Some b) p e = none_starts debug conv (ends b.start b.moves) None ∙ sym (none_starts debug conv (ends b.start b.moves) (Some b.start.template))
new_in debug conv false waits (Some b) p e = none_starts debug conv (ends b.start b.moves) None ∙ sym (none_starts debug conv (ends b.start b.moves) (Some b.start.template))

new_starts : (debug : Bool) (conv : ℕ) (s : Standing) → has_request s.phase ≡ true → start_by debug conv (outcome_of s) (new_template s) ≡ start_by debug conv (outcome_of s) (template_coming s)
new_starts debug conv s has = new_in debug conv s.starting (waits_for_user s.phase) s.begun s.phase (waits_not s.phase has)

pub carried_logs : (done : List Deed) (old mid new : Conversations) (conv : ℕ) (word : List ℕ) (over : Bool) (start : Option (List ℕ)) → stands done conv ≡ true → has_request (standing_of done conv).phase ≡ true → over ≡ is_end (outcome_of (standing_of done conv))
    → start ≡ start_by (is_debug done) conv (outcome_of (standing_of done conv)) (new_template (standing_of done conv)) → CanEnd done mid conv → SameOthers conv old mid → Tells (carried_talk conv word done) (asking_of mid) → IsTold conv over start mid new
    → Logs done old → Logs (carried_logged conv word done) new
carried_logs done old mid new conv word over start there has is starts can others tells told h = by_phase (standing_of done conv).phase refl has
  where
    s : Standing
    s = standing_of done conv

    by_phase : (p : Phase) → (standing_of done conv).phase ≡ p → has_request p ≡ true → Logs (carried_logged_in conv word p done) new
    by_phase (Waiting request) e now =
        talk_logs done old mid new conv (CarriedOut word) over start (template_coming s)
        (record { there = there; is_over = is; can = can; starts = λ started. starts ∙ new_starts (is_debug done) conv s has; of = carried_talk_of done conv word request e }) h.ends others (subst (λ (p : Phase). Tells (carried_in conv word p done) (asking_of mid)) e tells) told
    by_phase Resting e now = absurd (false≢true now)
    by_phase Seeking e now = absurd (false≢true now)
    by_phase (OnConfirm serial) e now = absurd (false≢true now)
    by_phase OnNeedkey e now = absurd (false≢true now)
    by_phase OnServer e now = absurd (false≢true now)
    by_phase (Kept answer) e now = absurd (false≢true now)

-- where it has none
pub uncarried_is : (done : List Deed) (conv : ℕ) (word : List ℕ) (p : Phase) → has_request p ≡ false → carried_logged_in conv word p done ≡ done
uncarried_is done conv word (Waiting request) none = absurd (false≢true (sym none))
uncarried_is done conv word Resting none = refl
uncarried_is done conv word Seeking none = refl
uncarried_is done conv word (OnConfirm serial) none = refl
uncarried_is done conv word OnNeedkey none = refl
uncarried_is done conv word OnServer none = refl
uncarried_is done conv word (Kept answer) none = refl

-- ---- its user replied

said_carries : (kind : PromptKind) (agrees : Bool) → carries_out (said_by kind agrees) ≡ false
said_carries k.Confirm agrees = refl
said_carries k.Needkey agrees = refl

pub replied_logs : (done : List Deed) (old mid new : Conversations) (kind : PromptKind) (tag conv : ℕ) (agrees over : Bool) (start : Option (List ℕ)) → stands done conv ≡ true → over ≡ is_end (outcome_of (standing_of done conv))
    → start ≡ start_by (is_debug done) conv (outcome_of (standing_of done conv)) (template_begun (standing_of done conv).begun) → ((q : ℕ) → line_at mid q ≡ line_at old q) → Tells (talked conv (said_by kind agrees) (OfPrompts kind (side.Replied tag) ∷ done)) (asking_of mid) → IsTold conv over start mid new
    → Logs done old → Logs (logged_talk conv (said_by kind agrees) (OfPrompts kind (side.Replied tag) ∷ done)) new
replied_logs done old mid new kind tag conv agrees over start there is starts lines tells told h =
    let s : Standing = standing_of done conv in
    let before : List Deed = OfPrompts kind (side.Replied tag) ∷ done in
    talk_logs before old mid new conv (said_by kind agrees) over start (template_begun s.begun)
    (record {
      there = there;
      is_over = is;
      can = λ template e runs. subst (λ l. IsMadeFor true conv template l) (sym (lines conv)) (own_line conv (line_at old conv) s template e runs (h.ends conv there));
      starts = λ started. starts;
      of = talked_of before conv (said_by kind agrees) (said_carries kind agrees);
    })
    (λ q stood. h.ends q stood) (λ other apart. lines other) tells told

-- ---- the authentication server is done with its question

-- who waits for it has started
on_server_starts : (starting : Bool) (p : Phase) (begun : Option Begun) (debug : Bool) (conv : ℕ) (template : Option (List Attr)) → p ≡ OnServer → is_some begun ≡ true
    → start_by debug conv (elim starting [ true ↦ outcome_unless (waits_for_user p) begun | false ↦ option_map (λ b. ends b.start b.moves) begun ]) template ≡ None
on_server_starts starting p None debug conv template e has = absurd (false≢true has)
on_server_starts false p (Some b) debug conv template e has = none_starts debug conv (ends b.start b.moves) template
on_server_starts true p (Some b) debug conv template e has =
    ap (λ (q : Phase). start_by debug conv (outcome_unless (waits_for_user q) (Some b)) template) e ∙ none_starts debug conv (ends b.start b.moves) template

begun_has : (begun : Option Begun) (template : List Attr) → template_begun begun ≡ Some template → is_some begun ≡ true
begun_has None template e = absurd cc
begun_has (Some b) template e = refl

server_logs : (done : List Deed) (old mid new : Conversations) (conv : ℕ) (call : Call) (over : Bool) → carries_out call ≡ false → stands done conv ≡ true → (standing_of done conv).phase ≡ OnServer → over ≡ is_end (outcome_of (standing_of done conv)) → ((q : ℕ) → line_at mid q ≡ line_at old q)
    → Tells (talked conv call done) (asking_of mid) → IsTold conv over None mid new → Logs done old → Logs (logged_talk conv call done) new
server_logs done old mid new conv call over begins there on is lines tells told h =
    talk_logs done old mid new conv call over None (template_begun s.begun)
    (record {
      there = there;
      is_over = is;
      can = λ template e runs. subst (λ l. IsMadeFor true conv template l) (sym (lines conv)) (own_line conv (line_at old conv) s template e runs (h.ends conv there));
      starts = λ started. sym (on_server_starts s.starting s.phase s.begun (is_debug done) conv (template_begun s.begun) on (begun_has s.begun _ (of_template (template_begun s.begun) now.begun (started_begun now started) of)));
      of = of;
    })
    h.ends (λ other apart. lines other) tells told
  where
    s : Standing
    s = standing_of done conv

    now : Standing
    now = standing_of (talked conv call done) conv

    of : IsOf (template_begun (standing_of done conv).begun) (standing_of (talked conv call done) conv).begun
    of = talked_of done conv call begins

pub asker_logs : (done : List Deed) (old : Conversations) (asking : AskingTalks) (new : Conversations) (asker : Option ℕ) (number : ℕ) (call : Call) (over : Bool) → carries_out call ≡ false → asker ≡ told.asker done number → IfSome asker (λ conv. ShowsOf (talks_in old) conv (λ s. is_end (outcome_of s)) over)
    → Tells (talked_by (told.asker done number) call done) asking → AskerTold asker over (with_ends asking old.ends) new → Logs done old → Logs (logged_by (told.asker done number) call done) new
asker_logs done old asking new asker number call over begins is shown tells wrote h =
    subst (λ (o : Option ℕ). Logs (logged_by o call done) new) is (here asker is shown (subst (λ (o : Option ℕ). Tells (talked_by o call done) asking) (sym is) tells) wrote)
  where
    mid : Conversations
    mid = with_ends asking old.ends

    here : (o : Option ℕ) → o ≡ told.asker done number → IfSome o (λ conv. ShowsOf (talks_in old) conv (λ s. is_end (outcome_of s)) over) → Tells (talked_by o call done) asking → AskerTold o over (with_ends asking old.ends) new → Logs (logged_by o call done) new
    here None e shown tells same = subst (λ (t : Conversations). Logs done t) (sym same) (record { tells = tells; ends = h.ends })
    here (Some conv) e shown tells wrote =
        let on = is_asked done (talks_in old) number conv e h.tells.talks.speak in
        server_logs done old mid new conv call over begins on.stands on.phase (shown done on.stands h.tells.talks.speak) (λ q. refl) tells wrote h
