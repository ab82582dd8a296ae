-- What a turn says of its conversation is what it adds to the talk of that conversation.
use Rattle.std.proofs.Common.{◌≡◌, ℕ, List, [], ◌∷◌, ◌++◌, Bool, true, false, not, ◌&&◌, Option, Some, None, is_some, if◌then◌else◌, refl, sym, ap, subst, ◌∙◌}
use Rattle.std.specs.Str.{bytes_eq}
use Rattle.key_lists.specs.CtlLines.{few_of}
use Rattle.roles.specs.Starts.{start_with}
use Rattle.roles.specs.Talks.{Call as Move, heard, unheard}
use Rattle.talks.specs.Protocols.{refuses}
use Rattle.talks.specs.Standings.{Begun, Waiting, carried_out, made, outcome_of}
use Rattle.wire_histories.specs.declared.step.Step.{Step}
use Rattle.wire_histories.specs.declared.step.Step.TheVariants as s
use Rattle.wire_histories.specs.Histories.{Act, act_in, answered, if_named, unanswered}
use Rattle.wire_histories.specs.Conversations.{started_by}
use Rattle.agent_history.specs.declared.event.Event.{Event}
use Rattle.agent_history.specs.declared.event.Event.TheVariants.{NoAnswer}
use Rattle.agent_history.specs.declared.event.Event.TheVariants as events
use Rattle.agent_history.specs.Histories.{History, deeds}
use Rattle.driven_agents.specs.Quiet.{NamesNoLines}
use Rattle.world_history.specs.Driving.{clunks, drive, is_refused, reads, replies_to, writes}
use Rattle.world_history.specs.Talking.{Asks, all_reply_steps, came, following, gets, gives, own_steps, request_steps, request_text, requested, start_step, starts, tuple_in, word_of}
use Rattle.world_history.specs.Turns.{Turn, after, asks, closes, hears, lets_open, misses, tells, turn_steps}
use Rattle.world_promises.specs.Telling.{AnswersLeave, Searches, acts_in, answer_recorded, idle, is_driven, on_server, request_acts}
use Rattle.world_promises.proofs.LeaveLaws.{absence_leaves, answers_leave, requests_leave}
use Rattle.world_promises.proofs.StartLaws.{started_unrefused}
use Rattle.world_promises.specs.Agents.{AnswerDoes, IsCarried, IsUnread, RequestDoes, TurnDoes, asked_as, begun_in, conv_in, is_carried, is_turned_away, isnt_read, write_of}
use Rattle.world_promises.proofs.LeaveLemmas.{behind_takes, close_stays, opening_leaves, stays_so, write_stays}
use Rattle.world_promises.proofs.NamedStarts.{start_named}
use Rattle.world_promises.proofs.SaidLemmas.{heard_said, its_own, nothing_said, own_said, refused_said, request_said, said, told_none}
use Rattle.world_promises.proofs.StepLemmas.{Each, no_acts}

-- what is said of a conversation, with what it had done, is what it has done then
abbrev pub Adds : List ℕ → List Step → Option Begun → Option Begun → Type 0
Adds conv steps before now = said conv steps ++ acts_in before ≡ acts_in now

driven : (what : Asks) → is_driven (asked_as what) ≡ true
driven (starts word tuple) = refl
driven gets = refl
driven (gives bytes) = refl

-- ---- the step of a start

start_said : (conv word tuple : List ℕ) → refuses (tuple_in (few_of tuple)) ≡ None → act_in conv (start_step conv word tuple) ≡ started_by (start_with (tuple_in (few_of tuple)) word) ∷ []
unfolding start_step
start_said conv word tuple none = its_own conv _ ∙ ap (λ a. a ∷ []) (start_named (tuple_in (few_of tuple)) word none)

-- ---- a request

carried_adds : (from : ℕ) (conv : List ℕ) (number fid : ℕ) (what : Asks) (h : History) → IsCarried number fid what h → Adds conv (own_steps conv what (came fid (reads fid (word_of what)) h) ++ following from conv (came fid (reads fid (word_of what)) h)) (begun_in h number) (begun_in (drive (reads fid (word_of what)) h) number)
carried_adds from conv number fid what h does =
    let c = came fid (reads fid (word_of what)) h in
    let before = idle does.begun (Waiting (asked_as what)) does.said in
    let named : (word tuple : List ℕ) → what ≡ starts word tuple → (not (is_some (outcome_of before)) && is_some (outcome_of does.now)) ≡ true → act_in conv (start_step conv word tuple) ≡ started_by (start_with (tuple_in (few_of tuple)) word) ∷ [] = λ word tuple is starting.
    start_said conv word tuple (started_unrefused does.begun (Waiting (asked_as what)) does.said word tuple does.now (subst (λ x. Searches (carried_out before (word_of x) (asked_as x)) does.now) is does.searches) starting) in
    ap (λ xs. xs ++ acts_in (begun_in h number)) (request_said from conv what c before does.now does.comes (own_said conv what c before does.now does.comes does.taken named))
    ∙ ap (λ x. request_acts (word_of what) (asked_as what) before does.now ++ acts_in x) (ap (λ x. x.begun) does.stood)
    ∙ sym (requests_leave does.begun does.said (word_of what) (asked_as what) does.now does.rests (driven what) does.searches)
    ∙ sym (ap acts_in (behind_takes (reads fid (word_of what)) h number ∙ does.stands))

unread_adds : (from : ℕ) (conv : List ℕ) (number fid : ℕ) (what : Asks) (h : History) → IsUnread number fid what h → Adds conv (own_steps conv what (came fid (reads fid (word_of what)) h) ++ following from conv (came fid (reads fid (word_of what)) h)) (begun_in h number) (begun_in (drive (reads fid (word_of what)) h) number)
unread_adds from conv number fid what h does =
    ap (λ xs. xs ++ acts_in (begun_in h number)) (refused_said from conv what (came fid (reads fid (word_of what)) h) does.text does.replies does.questions does.same)
    ∙ sym (ap acts_in (stays_so (reads fid (word_of what)) h number does.stays))

-- by whether the write was refused
by_write : (conv : List ℕ) (number : ℕ) (refused : Bool) (x y : List Step) (written read : History) (before : Option Begun) → (refused ≡ true → Adds conv x before (begun_in written number)) → (refused ≡ false → Adds conv y before (begun_in read number)) → Adds conv (if refused then x else y) before (begun_in (if refused then written else read) number)
by_write conv number true x y written read before first second = first refl
by_write conv number false x y written read before first second = second refl

-- behind a write that changed nothing of what it met
behind_write : (conv : List ℕ) (steps : List Step) (written read : Option Begun) (before : Option Begun) → written ≡ before → Adds conv steps written read → Adds conv steps before read
behind_write conv steps written read before same so = subst (λ b. Adds conv steps b read) same so

pub request_adds : (from : ℕ) (conv : List ℕ) (number fid : ℕ) (what : Asks) (h : History) → NamesNoLines (deeds h) → RequestDoes number fid what h → Adds conv (request_steps from conv fid what h) (begun_in h number) (begun_in (requested fid what h) number)
request_adds from conv number fid what h quiet (is_turned_away refused none) =
    let write = write_of fid what in
    let c = came fid (reads fid (word_of what)) (drive write h) in
    by_write conv number (is_refused (replies_to write h)) (all_reply_steps from conv false (replies_to write h)) (own_steps conv what c ++ following from conv c) (drive write h) (drive (reads fid (word_of what)) (drive write h)) (begun_in h number)
    (λ is. ap (λ xs. xs ++ acts_in (begun_in h number)) (nothing_said from conv false (replies_to write h) none) ∙ sym (ap acts_in (write_stays number fid (request_text what) h quiet)))
    (λ is. cc (sym is ∙ refused))
request_adds from conv number fid what h quiet (isnt_read granted does) =
    let write = write_of fid what in
    let c = came fid (reads fid (word_of what)) (drive write h) in
    let steps = own_steps conv what c ++ following from conv c in
    by_write conv number (is_refused (replies_to write h)) (all_reply_steps from conv false (replies_to write h)) steps (drive write h) (drive (reads fid (word_of what)) (drive write h)) (begun_in h number)
    (λ is. cc (sym is ∙ granted))
    (λ is. behind_write conv steps (begun_in (drive write h) number) (begun_in (drive (reads fid (word_of what)) (drive write h)) number) (begun_in h number) (write_stays number fid (request_text what) h quiet) (unread_adds from conv number fid what (drive write h) does))
request_adds from conv number fid what h quiet (is_carried granted does) =
    let write = write_of fid what in
    let c = came fid (reads fid (word_of what)) (drive write h) in
    let steps = own_steps conv what c ++ following from conv c in
    by_write conv number (is_refused (replies_to write h)) (all_reply_steps from conv false (replies_to write h)) steps (drive write h) (drive (reads fid (word_of what)) (drive write h)) (begun_in h number)
    (λ is. cc (sym is ∙ granted))
    (λ is. behind_write conv steps (begun_in (drive write h) number) (begun_in (drive (reads fid (word_of what)) (drive write h)) number) (begun_in h number) (write_stays number fid (request_text what) h quiet) (carried_adds from conv number fid what (drive write h) does))

-- ---- the authentication server answers

answer_adds : (from : ℕ) (conv : List ℕ) (number fid : ℕ) (event : Event) (call : Move) (act : Act) (step : Step) (h : History) → AnswersLeave call act → act_in conv step ≡ if_named conv conv act → AnswerDoes number fid event call h → Adds conv (step ∷ following from conv (came fid event h)) (begun_in h number) (begun_in (drive event h) number)
answer_adds from conv number fid event call act step h leaves is does =
    let c = came fid event h in
    let before = on_server does.begun does.starting does.said in
    let now = made before call (Some does.begun) in
    ap (λ xs. xs ++ acts_in (begun_in h number)) (heard_said from conv c before now step act is does.comes)
    ∙ ap (λ x. answer_recorded act before now ++ acts_in x) (ap (λ x. x.begun) does.stood)
    ∙ sym (leaves does.begun does.starting does.said does.asked)
    ∙ sym (ap acts_in (behind_takes event h number ∙ does.stands))

-- ---- turns

nothing_by : (conv name : List ℕ) (steps : List Step) (before now : Option Begun) → bytes_eq conv name ≡ false → Each conv steps → now ≡ before → Adds name steps before now
nothing_by conv name steps before now apart each same = ap (λ xs. xs ++ acts_in before) (no_acts conv name steps apart each) ∙ sym (ap acts_in same)

pub conv_adds : (from number : ℕ) (turn : Turn) (h : History) → NamesNoLines (deeds h) → TurnDoes number turn h → Adds (conv_in turn) (turn_steps from turn h) (begun_in h number) (begun_in (after turn h) number)
unfolding turn_steps after
conv_adds from number (tells node line) h quiet does = ap (λ xs. xs ++ acts_in (begun_in h number)) (told_none [] node (replies_to (writes 1 line) h)) ∙ sym (ap acts_in (write_stays number 1 line h quiet))
conv_adds from number (lets_open other) h quiet does = sym (ap acts_in (opening_leaves number other h))
conv_adds from number (asks name own what) h quiet does = request_adds from name number own what h quiet does
conv_adds from number (hears name own call bytes) h quiet does = answer_adds from name number own (events.Answer call bytes) (heard bytes) (answered bytes) (s.Heard name bytes) h (answers_leave bytes) refl does
conv_adds from number (misses name own call) h quiet does = answer_adds from name number own (NoAnswer call) unheard unanswered (s.Unheard name) h absence_leaves refl does
conv_adds from number (closes name own) h quiet does = ap (λ xs. xs ++ acts_in (begun_in h number)) (nothing_said from name false (replies_to (clunks own) h) does) ∙ sym (ap acts_in (close_stays number own h quiet))
