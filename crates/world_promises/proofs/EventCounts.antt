-- What comes of a request to an agent of which all was taken, where little is to be handed out; and all is taken again behind it.
use Rattle.std.proofs.Common.{◌≡◌, ℕ, ◌≤◌, List, [], ◌∷◌, length, Bool, true, false, cond, Option, Some, None, sym, ap, subst, arith}
use Rattle.nine.specs.declared.message.TMsg.{TMsg}
use Rattle.nine.specs.declared.message.RBody.{RBody}
use Rattle.nine.specs.Messages.{t_frame}
use Rattle.nine.specs.Decoding.{request_of}
use Rattle.agent_history.specs.declared.event.Event.TheVariants.{Request}
use Rattle.agent_history.specs.Deeds.{Deed, OfConnection, Entered, Hung, Swept, was_hung, was_opened}
use Rattle.agent_history.specs.Replies.{has_settled, swept, untaken}
use Rattle.agent_history.specs.Conversations.{drops, next_question, questions}
use Rattle.agent_history.specs.Requests.{Call, after, after_frame, answered, body_to, call_of, granted, replied}
use Rattle.agent_history.specs.Histories.{History, deeds}
use Rattle.agent_laws.proofs.GrowLaws.{KeepsAny, frame_grows}
use Rattle.agent_laws.proofs.KindLaws.{KeepsIf, is_asked, is_met}
use Rattle.world_history.specs.Driving.{drive, left_to_hand}
use Rattle.driven_agents.specs.Quiet.{NamesNoLines}
use Rattle.driven_agents.proofs.EditGrows.{granted_so}
use Rattle.driven_agents.specs.Idle.{IsIdle, Runs}
use Rattle.driven_agents.proofs.AlikeLaws.{granted_keeps}
use Rattle.driven_agents.proofs.HandedLaws.{none_dropped, none_handed, none_unhanded}
use Rattle.driven_agents.proofs.LeftLaws.{request_deeds}
use Rattle.driven_agents.proofs.RunLaws.{event_runs}
use Rattle.driven_agents.proofs.KeptLaws.{behind_takes}
use Rattle.driven_agents.proofs.TakenLaws.{none_left}
use Rattle.world_promises.proofs.HandCounts.{AtMost}
use Rattle.world_promises.proofs.ShortLaws.{IsLittle}
use Rattle.world_promises.proofs.WaitCounts.{request_few}

-- an agent of which all was taken
pub record IsTaken (h : History) : Type 0 where
  pub entered : was_opened (deeds h) 0 ≡ true
  pub there : was_hung (deeds h) 0 ≡ false
  pub taken : untaken (deeds h) 0 ≡ []
  pub left : left_to_hand (deeds h) ≤ 0

pub left_none : (done : List Deed) → drops done ≡ [] → next_question done ≡ None → left_to_hand done ≤ 0
left_none done dropped none = omega (arith, ap length dropped, ap length (none_unhanded (questions done) none))

pub taken_idle : (h : History) → IsIdle h → IsTaken h
taken_idle h idle = record { entered = idle.calm.entered; there = idle.calm.there; taken = idle.taken; left = left_none (deeds h) idle.dropped idle.handed }

-- ---- the connection is there

abbrev pub IsThere : List Deed → Type 0
IsThere done = (was_opened done 0 ≡ true) × (was_hung done 0 ≡ false)

asked_there : (conn : ℕ) → KeepsIf ⊥ (is_asked conn) IsThere
asked_there conn done (OfConnection at Entered) is fits there = absurd cc
asked_there conn done (OfConnection at Hung) is fits there = absurd cc
asked_there conn done deed is fits there = there

pub met_there : KeepsAny is_met IsThere
met_there done (OfConnection at Entered) is there = absurd cc
met_there done (OfConnection at Hung) is there = absurd cc
met_there done deed is there = there

replied_there : (call : Call) (o : Option RBody) (done : List Deed) → IsThere done → IsThere (replied call o done)
replied_there call None done there = there
replied_there call (Some body) done there = there

pub swept_there : (done : List Deed) → IsThere done → IsThere (swept done)
swept_there done there = by_settled (has_settled done)
  where
    by_settled : (b : Bool) → IsThere (cond b (Swept ∷ done) done)
    by_settled true = there
    by_settled false = there

request_there : (frame word : List ℕ) (h : History) → IsTaken h → Runs (Request 0 frame word ∷ h) → IsThere (deeds (Request 0 frame word ∷ h))
request_there frame word h k runs =
    let done = deeds h in
    let call = call_of 0 frame word in
    subst IsThere (sym (request_deeds frame word h runs k.entered k.there))
    (swept_there (answered done call frame) (replied_there call (body_to done call frame) (after_frame done call frame) (frame_grows ⊥ IsThere call (asked_there call.conn) done frame (λ x. absurd x) (k.entered, k.there))))

-- ---- requests

pub request_little : (frame word : List ℕ) (h : History) → IsTaken h → left_to_hand (after_frame (deeds h) (call_of 0 frame word) frame) ≤ 1100 → Runs (Request 0 frame word ∷ h) → IsLittle (deeds (Request 0 frame word ∷ h))
request_little frame word h k few runs =
    let done = deeds h in
    let call = call_of 0 frame word in
    record {
      entered = (request_there frame word h k runs).0;
      replies = request_few frame word h runs k.entered k.there k.taken;
      left = subst (λ d. left_to_hand d ≤ 1100) (sym (request_deeds frame word h runs k.entered k.there)) (left_swept (has_settled (answered done call frame)) (answered done call frame) (left_replied call (body_to done call frame) (after_frame done call frame) few));
    }
  where
    left_replied : (call : Call) (o : Option RBody) (done : List Deed) → left_to_hand done ≤ 1100 → left_to_hand (replied call o done) ≤ 1100
    left_replied call None done few = few
    left_replied call (Some body) done few = few

    left_swept : (b : Bool) (done : List Deed) → left_to_hand done ≤ 1100 → left_to_hand (cond b (Swept ∷ done) done) ≤ 1100
    left_swept true done few = few
    left_swept false done few = few

-- all is taken behind it again
pub request_taken : (frame word : List ℕ) (h : History) → IsTaken h → Runs (drive (Request 0 frame word) h) → IsTaken (drive (Request 0 frame word) h)
request_taken frame word h k runs =
    let event = Request 0 frame word in
    let once = request_there frame word h k (event_runs event h runs) in
    let there = behind_takes IsThere (record { takes = record { takes = λ d p. p }; asks = record { hands = λ d p. p; drops = λ d p. p } }) event h runs once.0 once in
    record { entered = there.0; there = there.1; taken = none_left event h once.1 runs; left = left_none (deeds (drive event h)) (none_dropped event h runs) (none_handed event h runs) }

-- what a request of a type does
abbrev pub Left : List Deed → Type 0
Left done = left_to_hand done ≤ 1100

pub frame_left : (asked : TMsg) (word : List ℕ) (done : List Deed) → Left done → ((m : TMsg) → request_of (t_frame asked) ≡ Some m → Left (after done (call_of 0 (t_frame asked) word) m.body)) → Left (after_frame done (call_of 0 (t_frame asked) word) (t_frame asked))
unfolding after_frame
frame_left asked word done left is =
    let call = call_of 0 (t_frame asked) word in
    granted_keeps Left done call (granted done call (t_frame asked)) left (granted_so (λ body. Left (after done call body)) done call (t_frame asked) is)

pub at_most : (h : History) → IsTaken h → NamesNoLines (deeds h) → AtMost 0 (deeds h)
at_most h k named = record { names = named; few = k.left }
