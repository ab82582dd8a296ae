-- At most 64 reads wait, so that at most 65 replies come of an event.
use Rattle.std.proofs.Common.{◌≡◌, ℕ, ◌≤◌, ◌<◌, List, [], ◌∷◌, length, Bool, true, false, cond, eqb, not, Option, Some, None, refl, ap, subst, arith, length-append}
use Rattle.std.specs.List.{cons_option, filter_map}
use Rattle.std.proofs.lemmas.Bool.{eqb-true}
use Rattle.std.proofs.lemmas.List.{length-map}
use Rattle.nine.specs.declared.message.RMsg.{RMsg}
use Rattle.nine.specs.declared.message.RBody.{RBody}
use Rattle.talks.specs.Calls as calls
use Rattle.agent_history.specs.declared.event.Event.TheVariants.{Request}
use Rattle.agent_history.specs.Deeds.{Deed, OfFids, OfReplies, OfConnection, Swept, Halted, Versioned, Clunked, Awaited, Settled, Flushed, Hung, was_hung, was_opened}
use Rattle.agent_history.specs.Replies.{Wait, fid_given_up, has_settled, is_unsettled, reply_in, settle_fid, settle_tag, settled_by, swept, untaken, waits}
use Rattle.agent_history.specs.Conversations.{resumed}
use Rattle.agent_history.specs.Requests.{Call, after_frame, answered, body_to, call_of, replied}
use Rattle.agent_history.specs.Histories.{History, deeds}
use Rattle.agent_laws.proofs.GrowLaws.{KeepsAny, all_are_known, frame_grows, history_grows, resumed_any}
use Rattle.agent_laws.proofs.KindLaws.{Fits, is_met}
use Rattle.driven_agents.specs.Idle.{Runs}
use Rattle.driven_agents.proofs.LeftLaws.{own_reply, request_left, resumed_left, swept_replies}
use Rattle.world_promises.proofs.FidLemmas.{filter_few}

-- ---- reads that wait

settle_few : (tag : ℕ) (body : RBody) (ws : List Wait) → length (settle_tag tag body ws) ≤ length ws
settle_few tag body [] = omega arith
settle_few tag body (w ∷ ws) = by_tag (eqb w.tag tag) (settle_few tag body ws)
  where
    by_tag : (b : Bool) → length (settle_tag tag body ws) ≤ length ws → length (cond b (settled_by body w ∷ ws) (w ∷ settle_tag tag body ws)) ≤ length (w ∷ ws)
    by_tag true more = omega arith
    by_tag false more = omega arith

abbrev pub FewWait : ℕ → List Deed → Type 0
FewWait conn done = length (waits done conn) ≤ 64

either_few : (b : Bool) (one other : List Wait) → (b ≡ true → length one ≤ 64) → length other ≤ 64 → length (cond b one other) ≤ 64
either_few true one other p q = p refl
either_few false one other p q = q

few_more : (conn : ℕ) (done : List Deed) (deed : Deed) → Fits done deed → FewWait conn done → FewWait conn (deed ∷ done)
few_more conn done (OfReplies at (Awaited tag fid count)) fits few =
    either_few (eqb at conn) _ (waits done conn)
    (λ on. let room = subst (λ n. length (waits done n) < 64) (eqb-true at conn on) fits.few in omega (arith, length-append (waits done conn) (record { tag = tag; fid = fid; count = count; reply = None } ∷ []))) few
few_more conn done (OfReplies at (Settled tag body)) fits few = either_few (eqb at conn) (settle_tag tag body (waits done conn)) (waits done conn) (λ _. omega (arith, settle_few tag body (waits done conn))) few
few_more conn done (OfReplies at (Flushed tag)) fits few = either_few (eqb at conn) _ (waits done conn) (λ _. omega (arith, filter_few (λ w. not (eqb w.tag tag)) (waits done conn))) few
few_more conn done (OfFids at (Versioned msize)) fits few = either_few (eqb at conn) [] (waits done conn) (λ _. omega arith) few
few_more conn done (OfFids at (Clunked fid)) fits few = either_few (eqb at conn) _ (waits done conn) (λ _. omega (arith, length-map (waits done conn) (settle_fid fid fid_given_up))) few
few_more conn done (OfConnection at Hung) fits few = either_few (eqb at conn) [] (waits done conn) (λ _. omega arith) few
few_more conn done Swept fits few = omega (arith, filter_few is_unsettled (waits done conn))
few_more conn done Halted fits few = omega arith
few_more conn done deed fits few = few

few_wait : (h : History) (conn : ℕ) → FewWait conn (deeds h)
few_wait h conn = history_grows (FewWait conn) (λ c done deed kind fits few. few_more conn done deed fits few) (omega arith) h

frame_few : (h : History) (call : Call) (frame : List ℕ) → FewWait 0 (after_frame (deeds h) call frame)
frame_few h call frame = frame_grows (Unit {0}) (FewWait 0) call (λ done deed kind fits few. few_more 0 done deed fits few) (deeds h) frame (λ _. all_are_known h) (few_wait h 0)

met_few : KeepsAny is_met (FewWait 0)
met_few done (OfReplies at (Settled tag body)) is few = either_few (eqb at 0) (settle_tag tag body (waits done 0)) (waits done 0) (λ _. omega (arith, settle_few tag body (waits done 0))) few
met_few done (OfReplies at (Awaited tag fid count)) is few = absurd cc
met_few done (OfReplies at (Flushed tag)) is few = absurd cc
met_few done (OfFids at (Versioned msize)) is few = absurd cc
met_few done (OfFids at (Clunked fid)) is few = absurd cc
met_few done (OfConnection at Hung) is few = absurd cc
met_few done Swept is few = absurd cc
met_few done Halted is few = absurd cc
met_few done deed is few = few

-- ---- replies

given_few : (ws : List Wait) → length (filter_map reply_in ws) ≤ length ws
given_few [] = omega arith
given_few (w ∷ ws) = by_reply (reply_in w) (given_few ws)
  where
    by_reply : (o : Option RMsg) → length (filter_map reply_in ws) ≤ length ws → length (cons_option o (filter_map reply_in ws)) ≤ length (w ∷ ws)
    by_reply None more = omega arith
    by_reply (Some m) more = omega arith

swept_few : (done : List Deed) → FewWait 0 done → length (swept_replies done) ≤ 64
swept_few done few = by_settled (has_settled done)
  where
    by_settled : (b : Bool) → length (cond b (filter_map reply_in (waits done 0)) []) ≤ 64
    by_settled true = omega (arith, given_few (waits done 0), few)
    by_settled false = omega arith

replied_few : (call : Call) (o : Option RBody) (done : List Deed) → FewWait 0 done → FewWait 0 (replied call o done)
replied_few call None done few = few
replied_few call (Some body) done few = few

own_few : (call : Call) (o : Option RBody) → length (own_reply call o) ≤ 1
own_few call None = omega arith
own_few call (Some body) = omega arith

pub request_few : (frame word : List ℕ) (h : History) → Runs (Request 0 frame word ∷ h) → was_opened (deeds h) 0 ≡ true → was_hung (deeds h) 0 ≡ false → untaken (deeds h) 0 ≡ [] → length (untaken (deeds (Request 0 frame word ∷ h)) 0) ≤ 65
request_few frame word h runs entered there none =
    let done = deeds h in
    let call = call_of 0 frame word in
    let o = body_to done call frame in
    let all = answered done call frame in
    omega (arith, ap length (request_left frame word h runs entered there none), length-append (own_reply call o) (swept_replies all), own_few call o, swept_few all (replied_few call o (after_frame done call frame) (frame_few h call frame)))

pub resumed_few : (o : Option ℕ) (call : calls.Call) (h : History) → untaken (deeds h) 0 ≡ [] → length (untaken (swept (resumed o call (deeds h))) 0) ≤ 65
resumed_few o call h none = omega (arith, ap length (resumed_left o call (deeds h) none), swept_few (resumed o call (deeds h)) (resumed_any (FewWait 0) met_few o call (deeds h) (few_wait h 0)))
