-- What is left to take behind an event of which nothing was left: the reply to a request, and those to the reads that it settled.
use Rattle.std.proofs.Common.{◌≡◌, ℕ, ◌≤◌, List, [], ◌∷◌, ◌++◌, length, drop, reverse, Bool, true, false, cond, eqb, ltb, ◌&&◌, Option, Some, None, inl, inr, refl, sym, ap, ◌∙◌, arith, length-append}
use Rattle.std.specs.List.{filter_map}
use Rattle.std.proofs.lemmas.Bool.{and_parts, cases_Bool, ltb-true}
use Rattle.std.proofs.lemmas.List.{append_assoc, drop_at, length-drop, length-reverse, reverse-append, reverse-reverse}
use Rattle.nine.specs.declared.message.RMsg.{RMsg}
use Rattle.nine.specs.declared.message.RBody.{RBody}
use Rattle.talks.specs.Calls as calls
use Rattle.agent_history.specs.declared.event.Event.TheVariants.{Request, NoAnswer}
use Rattle.agent_history.specs.declared.event.Event.TheVariants as events
use Rattle.agent_history.specs.Deeds.{Deed, Entered, OfReplies, OfConnection, Swept, Answered, Taken, was_hung, was_opened}
use Rattle.agent_history.specs.Replies.{has_settled, replies, reply_in, swept, taken, untaken, waits}
use Rattle.agent_history.specs.Conversations.{asker, resumed}
use Rattle.agent_history.specs.Requests.{Call, after_frame, answered, body_to, call_of, replied}
use Rattle.agent_history.specs.Histories.{History, deeds, entered}
use Rattle.agent_laws.proofs.GrowLaws.{KeepsAny, frame_grows, resumed_any}
use Rattle.agent_laws.proofs.KindLaws.{KeepsIf, is_asked, is_met}
use Rattle.driven_agents.specs.Idle.{Runs}
use Rattle.driven_agents.proofs.RunLaws.{going}

-- ---- no more replies are taken than were given

taken_given : (done : List Deed) (conn : ℕ) → taken done conn ≤ length (replies done conn)
taken_given [] conn = omega arith
taken_given (OfReplies at (Answered tag body) ∷ done) conn = elim (cases_Bool (eqb at conn)) [
  | inl now ↦ rw now (omega (arith, taken_given done conn))
  | inr not_now ↦ rw not_now (taken_given done conn)
]
taken_given (OfReplies at Taken ∷ done) conn = elim (cases_Bool (eqb at conn && ltb (taken done conn) (length (replies done conn)))) [
  | inl now ↦ rw now (omega (arith, ltb-true _ _ (and_parts (eqb at conn) _ now).1))
  | inr not_now ↦ rw not_now (taken_given done conn)
]
taken_given (Swept ∷ done) conn = omega (arith, length-append (reverse (filter_map reply_in (waits done conn))) (replies done conn), taken_given done conn)
taken_given (deed ∷ done) conn = taken_given done conn

-- so that all new ones are left
pub left_behind : (done later : List Deed) (new : List RMsg) → untaken done 0 ≡ [] → taken later 0 ≡ taken done 0 → replies later 0 ≡ new ++ replies done 0 → untaken later 0 ≡ reverse new
left_behind done later new none same more =
    let rs = replies done 0 in
    let all : length (reverse rs) ≡ taken done 0 = omega (arith, taken_given done 0, length-reverse rs, length-drop (taken done 0) (reverse rs), ap length none) in
    ap (λ n. drop n (reverse (replies later 0))) same
    ∙ (ap (λ xs. drop (taken done 0) (reverse xs)) more
    ∙ (ap (drop (taken done 0)) (reverse-append new rs)
    ∙ drop_at (reverse rs) (reverse new) (taken done 0) all))

-- ---- what a sweep gives

abbrev pub swept_replies : List Deed → List RMsg
swept_replies done = cond (has_settled done) (filter_map reply_in (waits done 0)) []

replies_swept : (b : Bool) (done : List Deed) → replies (cond b (Swept ∷ done) done) 0 ≡ reverse (cond b (filter_map reply_in (waits done 0)) []) ++ replies done 0
replies_swept true done = refl
replies_swept false done = refl

taken_swept : (b : Bool) (done : List Deed) → taken (cond b (Swept ∷ done) done) 0 ≡ taken done 0
taken_swept true done = refl
taken_swept false done = refl

-- behind deeds that gave these, and a sweep
swept_left : (before done : List Deed) (new : List RMsg) → untaken before 0 ≡ [] → taken done 0 ≡ taken before 0 → replies done 0 ≡ new ++ replies before 0 → untaken (swept done) 0 ≡ reverse new ++ swept_replies done
swept_left before done new none same more =
    let told = reverse (swept_replies done) in
    left_behind before (swept done) (told ++ new) none (taken_swept (has_settled done) done ∙ same) (replies_swept (has_settled done) done ∙ (ap (λ xs. told ++ xs) more ∙ sym (append_assoc told new (replies before 0))))
    ∙ (reverse-append told new ∙ ap (λ xs. reverse new ++ xs) (reverse-reverse (swept_replies done)))

-- ---- which deeds give no reply

abbrev Gives : List RMsg → ℕ → List Deed → Type 0
Gives rs n done = (replies done 0 ≡ rs) × (taken done 0 ≡ n)

asked_gives : (rs : List RMsg) (n conn : ℕ) → KeepsIf ⊥ (is_asked conn) (Gives rs n)
asked_gives rs n conn done (OfReplies at (Answered tag body)) is fits g = absurd cc
asked_gives rs n conn done (OfReplies at Taken) is fits g = absurd cc
asked_gives rs n conn done Swept is fits g = absurd cc
asked_gives rs n conn done deed is fits g = g

met_gives : (rs : List RMsg) (n : ℕ) → KeepsAny is_met (Gives rs n)
met_gives rs n done (OfReplies at (Answered tag body)) is g = absurd cc
met_gives rs n done (OfReplies at Taken) is g = absurd cc
met_gives rs n done Swept is g = absurd cc
met_gives rs n done deed is g = g

frame_gives : (done : List Deed) (call : Call) (frame : List ℕ) → Gives (replies done 0) (taken done 0) (after_frame done call frame)
frame_gives done call frame = frame_grows ⊥ (Gives (replies done 0) (taken done 0)) call (asked_gives (replies done 0) (taken done 0) call.conn) done frame (λ x. absurd x) (refl, refl)

resumed_gives : (o : Option ℕ) (call : calls.Call) (done : List Deed) → Gives (replies done 0) (taken done 0) (resumed o call done)
resumed_gives o call done = resumed_any (Gives (replies done 0) (taken done 0)) (met_gives (replies done 0) (taken done 0)) o call done (refl, refl)

-- ---- requests

-- what a request does on a connection that is there
pub request_deeds : (frame word : List ℕ) (h : History) → Runs (Request 0 frame word ∷ h) → was_opened (deeds h) 0 ≡ true → was_hung (deeds h) 0 ≡ false → deeds (Request 0 frame word ∷ h) ≡ swept (answered (deeds h) (call_of 0 frame word) frame)
request_deeds frame word h runs open_ there =
    let done = deeds h in
    let call = call_of 0 frame word in
    (going (Request 0 frame word) h runs).now
    ∙ (ap (λ b. cond b done (swept (answered (entered 0 done) call frame))) there
    ∙ ap (λ b. swept (answered (cond b done (OfConnection 0 Entered ∷ done)) call frame)) open_)

-- its own reply, if it has one
abbrev pub own_reply : Call → Option RBody → List RMsg
own_reply call None = []
own_reply call (Some body) = record { tag = call.tag; body = body } ∷ []

own_replies : (call : Call) (o : Option RBody) (done : List Deed) → call.conn ≡ 0 → replies (replied call o done) 0 ≡ own_reply call o ++ replies done 0
own_replies call None done on = refl
own_replies call (Some body) done on = ap (λ n. cond (eqb n 0) (record { tag = call.tag; body = body } ∷ replies done 0) (replies done 0)) on

own_taken : (call : Call) (o : Option RBody) (done : List Deed) → taken (replied call o done) 0 ≡ taken done 0
own_taken call None done = refl
own_taken call (Some body) done = refl

own_once : (call : Call) (o : Option RBody) → reverse (own_reply call o) ≡ own_reply call o
own_once call None = refl
own_once call (Some body) = refl

pub request_left : (frame word : List ℕ) (h : History) → Runs (Request 0 frame word ∷ h) → was_opened (deeds h) 0 ≡ true → was_hung (deeds h) 0 ≡ false → untaken (deeds h) 0 ≡ []
    → untaken (deeds (Request 0 frame word ∷ h)) 0 ≡ own_reply (call_of 0 frame word) (body_to (deeds h) (call_of 0 frame word) frame) ++ swept_replies (answered (deeds h) (call_of 0 frame word) frame)
request_left frame word h runs open_ there none =
    let done = deeds h in
    let call = call_of 0 frame word in
    let o = body_to done call frame in
    let given = frame_gives done call frame in
    ap (λ d. untaken d 0) (request_deeds frame word h runs open_ there)
    ∙ (swept_left done (answered done call frame) (own_reply call o) none (own_taken call o (after_frame done call frame) ∙ given.1) (own_replies call o (after_frame done call frame) refl ∙ ap (λ rs. own_reply call o ++ rs) given.0)
    ∙ ap (λ rs. rs ++ swept_replies (answered done call frame)) (own_once call o))

-- ---- what the authentication server says

pub answer_deeds : (call : ℕ) (bytes : List ℕ) (h : History) → Runs (events.Answer call bytes ∷ h) → deeds (events.Answer call bytes ∷ h) ≡ swept (resumed (asker (deeds h) call) (calls.Heard bytes) (deeds h))
answer_deeds call bytes h runs = (going (events.Answer call bytes) h runs).now

pub absence_deeds : (call : ℕ) (h : History) → Runs (NoAnswer call ∷ h) → deeds (NoAnswer call ∷ h) ≡ swept (resumed (asker (deeds h) call) calls.Unheard (deeds h))
absence_deeds call h runs = (going (NoAnswer call) h runs).now

pub resumed_left : (o : Option ℕ) (call : calls.Call) (done : List Deed) → untaken done 0 ≡ [] → untaken (swept (resumed o call done)) 0 ≡ swept_replies (resumed o call done)
resumed_left o call done none = let given = resumed_gives o call done in swept_left done (resumed o call done) [] none given.1 given.0
