-- What a start leaves is what is recorded of it.
use Rattle.std.proofs.Common.{◌≡◌, ℕ, List, [], ◌∷◌, ◌++◌, Bool, true, false, not, ◌&&◌, Option, Some, None, is_some, if◌then◌else◌, refl, sym, ap, subst, ◌∙◌}
use Rattle.std.proofs.lemmas.List.{append-nil}
use Rattle.attr_tuples.specs.declared.attr.Attr.{Attr}
use Rattle.key_lists.specs.Lists.{KeyEntry}
use Rattle.key_lists.specs.CtlLines.{few_of}
use Rattle.roles.specs.declared.answer.StartFault.{StartFault}
use Rattle.roles.specs.declared.need.Need.{Need}
use Rattle.roles.specs.declared.need.Need.TheVariants.{Nothing, Key, Offers, Pick, Exchange}
use Rattle.roles.specs.declared.need.Outcome.{Outcome}
use Rattle.roles.specs.declared.need.Outcome.TheVariants.{Running}
use Rattle.roles.specs.Answers.{is_sought}
use Rattle.roles.specs.Starts.{Start, start_with}
use Rattle.roles.specs.Talks.{Call as Move, offered, picked}
use Rattle.talks.specs.RpcAnswers.{answer_text}
use Rattle.talks.specs.Requests as rpc
use Rattle.talks.specs.declared.answer.RpcAnswer.{RpcAnswer}
use Rattle.talks.specs.declared.answer.RpcAnswer.TheVariants as a
use Rattle.talks.specs.Protocols.{answers, ends, needs, refuses}
use Rattle.talks.specs.declared.said.Said.{Said}
use Rattle.talks.specs.Answers.{move_answer, start_answer}
use Rattle.talks.specs.Calls.{Chosen, AsksConsent, AsksKey, Denied, NoneServes, Offered, Picked}
use Rattle.talks.specs.Standings.{Begun, Phase, Seeking, Kept, Standing, carried_out, is_for, kept_key, need_in, needs_key, outcome_of, outcome_unless, phase_after, sought, start_by, started, template_of, told_of_key}
use Rattle.wire_histories.specs.Histories.{Act}
use Rattle.wire_histories.specs.Conversations.{acts_from, asked_now, done_by, end_by, ended_as, if_found, is_asked, meets, seeks, speaker, started_by, waiting}
use Rattle.world_history.specs.Talking.{tuple_in}
use Rattle.world_promises.specs.Roles.{IsRole}
use Rattle.world_promises.proofs.AllRoles.{all_roles}
use Rattle.world_promises.specs.Telling.{Searches, rests, finds, acts_in, answer_acts, end_in, idle, question_acts, request_acts, told_acts}
use Rattle.world_promises.proofs.TellLemmas.{already_told, bad_template_told, denied_told, fault_told, move_told, need_told, ok_told}
use Rattle.world_promises.proofs.RoleForms.{same_end}
use Rattle.world_promises.proofs.SearchSteps.{after_search, at_rest, chosen_meets, meets_sought, met_step, not_waiting, offers_meet, pick_meets, rest_only, rest_told}

-- a conversation that is being started
abbrev pub starting_at : Start → List Move → Option KeyEntry → RpcAnswer → Said → Standing
starting_at start moves key answer said = record { begun = Some (record { start = start; moves = moves; key = key }); phase = phase_after (needs start moves) answer; starting = true; said = said }

-- the start's own act, where the conversation has started
abbrev pub first_act : Start → Standing → List Act
first_act start now = if is_some (outcome_of now) then started_by start ∷ [] else []

-- what is recorded of it
abbrev pub start_acts : Start → Standing → List Act
start_acts start now = answer_acts now.phase ++ (end_in (outcome_of now) ++ (question_acts now.phase (need_in now.begun) ++ first_act start now))

abbrev pub IsStarted : Start → Standing → Type 0
IsStarted start now = acts_in now.begun ≡ start_acts start now

-- it has started, or is searching no more
started_so : (start : Start) → IsRole (speaker start) → (moves : List Move) (key : Option KeyEntry) (answer : RpcAnswer) (said : Said) → is_sought (needs start moves) ≡ false → told_acts (answer_text answer) ≡ [] → acts_from (speaker start) (started_by start) moves ≡ after_search (needs start moves) (ends start moves) (started_by start) → IsStarted start (starting_at start moves key answer said)
started_so start r moves key answer said rest told left =
    let now = starting_at start moves key answer said in
    let e = ends start moves in
    let n = needs start moves in
    let b : Begun = record { start = start; moves = moves; key = key } in
    let out : outcome_of now ≡ Some e = ap (λ w. outcome_unless w (Some b)) (not_waiting n answer rest) in
    left
    ∙ rest_told n answer e (started_by start) (first_act start now) rest told (ap (λ o. if is_some o then started_by start ∷ [] else []) out)
    ∙ ap (λ o. answer_acts (phase_after n answer) ++ (end_in o ++ (question_acts (phase_after n answer) n ++ first_act start now))) (sym out)

-- it is refused
refused_start : (start : Start) (starting : Bool) (said : Said) (answer : RpcAnswer) (now : Standing) → told_acts (answer_text answer) ≡ [] → Searches (record { begun = None; phase = Kept answer; starting = starting; said = said }) now → IsStarted start now
refused_start start true said answer now told later =
    subst (IsStarted start) (sym (rest_only (record { begun = None; phase = Kept answer; starting = true; said = said }) now later (λ e. cc e))) (ap (λ t. t ++ []) (sym told))
refused_start start false said answer now told later =
    subst (IsStarted start) (sym (rest_only (record { begun = None; phase = Kept answer; starting = false; said = said }) now later (λ e. cc e))) (ap (λ t. t ++ []) (sym told))

-- what a start leaves while it is being started
abbrev IsLeft : Start → List Move → Type 0
IsLeft start moves = (waiting (speaker start) (started_by start) moves ≡ started_by start) × (acts_from (speaker start) (started_by start) moves ≡ after_search (needs start moves) (ends start moves) (started_by start))

-- a call meets what is needed
left_by : (start : Start) → IsRole (speaker start) → (moves : List Move) (call : Move) → done_by (speaker start) (started_by start) moves call ≡ if_found (seeks (speaker start) moves) (seeks (speaker start) (call ∷ moves)) (waiting (speaker start) (started_by start) moves) → waiting (speaker start) (started_by start) (call ∷ moves) ≡ waiting (speaker start) (started_by start) moves → meets (needs start moves) call ≡ true → IsLeft start moves → IsLeft start (call ∷ moves)
left_by start r moves call does waits meets_so left =
    let none = ap (λ b. if b then [] else ended_as (ends start moves) ++ (asked_now (needs start moves) ++ started_by start ∷ [])) (meets_sought (needs start moves) call meets_so) in
    (waits ∙ left.0, met_step (speaker start) r (started_by start) moves call (started_by start) [] does meets_so left.0 (left.1 ∙ none) ∙ append-nil (after_search (needs start (call ∷ moves)) (ends start (call ∷ moves)) (started_by start)))

-- searches one after the other
searched_start : (start : Start) → IsRole (speaker start) → (s now : Standing) → Searches s now → (moves : List Move) (key : Option KeyEntry) (answer : RpcAnswer) (said : Said) → s ≡ starting_at start moves key answer said → told_acts (answer_text answer) ≡ [] → IsLeft start moves → IsStarted start now
searched_start start r s now (rests resting) moves key answer said is told left =
    let none : phase_after (needs start moves) answer ≡ Seeking → ⊥ = λ e. resting (ap (λ x. x.phase) is ∙ e) in
    subst (IsStarted start) (sym is) (started_so start r moves key answer said (at_rest (needs start moves) answer none) told left.1)
searched_start start r s now (finds (Chosen found_key) seeks_so is_so nobody later) moves key answer said is told left =
    let call = told_of_key found_key in
    let need_so : is_for (needs start moves) (Chosen found_key) ≡ true = subst (λ x. is_for (need_in x.begun) (Chosen found_key) ≡ true) is is_so in
    searched_start start r (sought s (Chosen found_key)) now later (call ∷ moves) (kept_key found_key (needs start (call ∷ moves))) (move_answer a.Ok (Some found_key) (answers start moves call)) said
    (ap (λ x. sought x (Chosen found_key)) is) (move_told (Some found_key) (answers start moves call))
    (left_by start r moves call refl refl (chosen_meets (needs start moves) found_key call need_so (λ template. refl)) left)
searched_start start r s now (finds (Offered list) seeks_so is_so nobody later) moves key answer said is told left =
    let call = offered list in
    let need_so : is_for (needs start moves) (Offered list) ≡ true = subst (λ x. is_for (need_in x.begun) (Offered list) ≡ true) is is_so in
    searched_start start r (sought s (Offered list)) now later (call ∷ moves) key (move_answer a.Ok key (answers start moves call)) said
    (ap (λ x. sought x (Offered list)) is) (move_told key (answers start moves call))
    (left_by start r moves call refl refl (offers_meet (needs start moves) list need_so) left)
searched_start start r s now (finds (Picked place) seeks_so is_so nobody later) moves key answer said is told left =
    let call = picked place in
    let need_so : is_for (needs start moves) (Picked place) ≡ true = subst (λ x. is_for (need_in x.begun) (Picked place) ≡ true) is is_so in
    searched_start start r (sought s (Picked place)) now later (call ∷ moves) key (move_answer a.Ok key (answers start moves call)) said
    (ap (λ x. sought x (Picked place)) is) (move_told key (answers start moves call))
    (left_by start r moves call refl refl (pick_meets (needs start moves) place need_so) left)
searched_start start r s now (finds Denied seeks_so is_so nobody later) moves key answer said is told left =
    refused_start start true said a.Denied now denied_told (subst (λ x. Searches (sought x Denied) now) is later)
searched_start start r s now (finds NoneServes seeks_so is_so nobody later) moves key answer said is told left =
    refused_start start true said (needs_key (starting_at start moves key answer said)) now (need_told (template_of (starting_at start moves key answer said).begun)) (subst (λ x. Searches (sought x NoneServes) now) is later)
searched_start start r s now (finds (AsksConsent found_key) seeks_so is_so nobody later) moves key answer said is told left = cc nobody
searched_start start r s now (finds AsksKey seeks_so is_so nobody later) moves key answer said is told left = cc nobody

-- before any call
first_left : (e : Outcome) (n : Need) (act : Act) → e ≡ Running → is_asked n ≡ false → (if is_sought n then [] else act ∷ []) ≡ after_search n e act
first_left e Nothing act runs none = ap (λ o. ended_as o ++ act ∷ []) (sym runs)
first_left e (Key template) act runs none = refl
first_left e (Offers template) act runs none = refl
first_left e (Pick templates) act runs none = refl
first_left e (Exchange request shape) act runs none = cc none

-- ---- all starts

by_refusal : (phase : Phase) (said : Said) (word : List ℕ) (template : List Attr) (fault : Option StartFault) (now : Standing) → refuses template ≡ fault → Searches (started (idle None phase said) word template fault) now → IsStarted (start_with template word) now
by_refusal phase said word template (Some fault) now is later = refused_start (start_with template word) false said (start_answer fault) now (fault_told fault) later
by_refusal phase said word template None now is later =
    let start = start_with template word in
    let r = all_roles start in
    searched_start start r (started (idle None phase said) word template None) now later [] None a.Ok said refl ok_told
    (refl, first_left (ends start []) (needs start []) (started_by start) r.begins r.asks_nobody)

by_text : (phase : Phase) (said : Said) (word : List ℕ) (o : Option (List Attr)) (now : Standing) → Searches (start_by (idle None phase said) word o) now → IsStarted (start_with (tuple_in o) word) now
by_text phase said word None now later = refused_start (start_with [] word) false said a.BadTemplate now bad_template_told later
by_text phase said word (Some template) now later = by_refusal phase said word template (refuses template) now refl later

pub start_left : (begun : Option Begun) (phase : Phase) (said : Said) (word text : List ℕ) (now : Standing) → Searches (carried_out (idle begun phase said) word (rpc.starts text)) now → acts_in now.begun ≡ request_acts word (rpc.starts text) (idle begun phase said) now ++ acts_in begun
start_left None phase said word text now later =
    by_text phase said word (few_of text) now later ∙ sym (append-nil (start_acts (start_with (tuple_in (few_of text)) word) now))
start_left (Some b) phase said word text now later =
    let e = ends b.start b.moves in
    let left = acts_in (Some b) in
    subst (λ x. acts_in x.begun ≡ request_acts word (rpc.starts text) (idle (Some b) phase said) x ++ left) (sym (rest_only (idle (Some b) (Kept a.AlreadyStarted) said) now later (λ is. cc is)))
    (sym (ap (λ t. (t ++ (end_by e e ++ [])) ++ left) already_told ∙ ap (λ x. (x ++ []) ++ left) (same_end e)))

-- ---- what has started wasn't refused

rested : (answer : RpcAnswer) (said : Said) (now : Standing) → Searches (idle None (Kept answer) said) now → is_some (outcome_of now) ≡ false
rested answer said now later = ap (λ x. is_some (outcome_of x)) (rest_only (idle None (Kept answer) said) now later (λ is. cc is))

unrefused_by : (phase : Phase) (said : Said) (word : List ℕ) (template : List Attr) (fault : Option StartFault) (now : Standing) → refuses template ≡ fault → Searches (started (idle None phase said) word template fault) now → is_some (outcome_of now) ≡ true → refuses template ≡ None
unrefused_by phase said word template (Some fault) now is later starting = absurd (cc (sym (rested (start_answer fault) said now later) ∙ starting))
unrefused_by phase said word template None now is later starting = is

unrefused_text : (phase : Phase) (said : Said) (word : List ℕ) (o : Option (List Attr)) (now : Standing) → Searches (start_by (idle None phase said) word o) now → is_some (outcome_of now) ≡ true → refuses (tuple_in o) ≡ None
unrefused_text phase said word None now later starting = absurd (cc (sym (rested a.BadTemplate said now later) ∙ starting))
unrefused_text phase said word (Some template) now later starting = unrefused_by phase said word template (refuses template) now refl later starting

pub started_unrefused : (begun : Option Begun) (phase : Phase) (said : Said) (word text : List ℕ) (now : Standing) → Searches (carried_out (idle begun phase said) word (rpc.starts text)) now → (not (is_some (outcome_of (idle begun phase said))) && is_some (outcome_of now)) ≡ true → refuses (tuple_in (few_of text)) ≡ None
started_unrefused None phase said word text now later starting = unrefused_text phase said word (few_of text) now later starting
started_unrefused (Some b) phase said word text now later starting = cc starting
