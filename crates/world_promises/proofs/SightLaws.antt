-- What is seen of an agent whose fid 2 is followed, and a conversation: what a request leaves of it, and what comes of it.
use Rattle.std.proofs.Common.{◌≡◌, ℕ, List, [], ◌∷◌, ◌++◌, append-nil, Bool, true, false, cond, Option, Some, None, Ok, refl, ap, ◌∙◌}
use Rattle.std.specs.List.{filter_map}
use Rattle.nine.specs.declared.message.TMsg.{TMsg}
use Rattle.nine.specs.declared.message.RBody.{RBody}
use Rattle.nine.specs.Messages.{t_frame}
use Rattle.file_tree.specs.declared.tree.FidState.{FidState}
use Rattle.key_lists.specs.Lists.{KeyList}
use Rattle.talks.specs.Calls as calls
use Rattle.talks.specs.Standings.{Standing, then_stands}
use Rattle.agent_history.specs.declared.event.Event.{Event}
use Rattle.agent_history.specs.declared.event.Event.TheVariants.{Request}
use Rattle.agent_history.specs.Deeds.{Deed, OfTalk, Swept, fid_of, held_by, keys_of, was_opened}
use Rattle.agent_history.specs.Replies.{Wait, has_settled, reply_in, waits}
use Rattle.agent_history.specs.Conversations.{Speaker, asker, opened_talks, speakers, standing_of}
use Rattle.agent_history.specs.Requests.{Call, after, after_frame, answered, body_to, call_of, granted, replied, reply_of}
use Rattle.agent_history.specs.Histories.{History, deeds}
use Rattle.world_history.specs.Driving.{drive, questions_to, replies_to}
use Rattle.driven_agents.specs.Idle.{IsCalm, IsIdle, Runs}
use Rattle.driven_agents.proofs.GrantLaws.{asker_then, event_same}
use Rattle.driven_agents.proofs.HandedLaws.{questions_so, to_put}
use Rattle.driven_agents.proofs.IdleLaws.{idle_behind}
use Rattle.driven_agents.proofs.KeptLaws.{KeepsTaken, behind_takes}
use Rattle.driven_agents.proofs.LeftLaws.{own_reply, request_deeds, request_left, swept_replies}
use Rattle.driven_agents.proofs.RunLaws.{event_runs}
use Rattle.driven_agents.proofs.TakenLaws.{replies_so}
use Rattle.world_promises.proofs.EventDeeds.{body_by, frame_by}
use Rattle.world_promises.proofs.TalkSides.{stands_here}

-- its keys, the reads that wait, what its fid 2 names, how many fids are held, the conversations that stand and how many
-- there were, and how the one of a number stands
pub record Sight : Type 0 where
  pub keys : KeyList
  pub waiting : List Wait
  pub own : Option FidState
  pub held : ℕ
  pub seated : List Speaker
  pub numbered : ℕ
  pub stands : Standing

abbrev pub sight : ℕ → List Deed → Sight
sight n done = record {
  keys = keys_of done;
  waiting = waits done 0;
  own = fid_of done 0 2;
  held = held_by done 0;
  seated = speakers done;
  numbered = opened_talks done;
  stands = standing_of done n;
}

-- ---- what takes, replies and sweeps leave

sight_taken : (n : ℕ) (s : Sight) → KeepsTaken (λ done. sight n done ≡ s)
sight_taken n s = record { takes = record { takes = λ done p. p }; asks = record { hands = λ done p. p; drops = λ done p. p } }

pub sight_behind : (n : ℕ) (e : Event) (h : History) → Runs (drive e h) → was_opened (deeds (e ∷ h)) 0 ≡ true → sight n (deeds (drive e h)) ≡ sight n (deeds (e ∷ h))
sight_behind n e h runs open_ = behind_takes (λ done. sight n done ≡ sight n (deeds (e ∷ h))) (sight_taken n (sight n (deeds (e ∷ h)))) e h runs open_ refl

sight_replied : (n : ℕ) (call : Call) (o : Option RBody) (done : List Deed) → sight n (replied call o done) ≡ sight n done
sight_replied n call None done = refl
sight_replied n call (Some body) done = refl

sight_unswept : (n : ℕ) (b : Bool) (done : List Deed) → b ≡ false → sight n (cond b (Swept ∷ done) done) ≡ sight n done
sight_unswept n true done none = absurd cc
sight_unswept n false done none = refl

settled_replied : (call : Call) (o : Option RBody) (done : List Deed) → has_settled (replied call o done) ≡ has_settled done
settled_replied call None done = refl
settled_replied call (Some body) done = refl

pub sight_then : (n : ℕ) (frame word : List ℕ) (h : History) → IsCalm (deeds h) → Runs (drive (Request 0 frame word) h) → IsCalm (deeds (Request 0 frame word ∷ h)) → has_settled (after_frame (deeds h) (call_of 0 frame word) frame) ≡ false
    → sight n (deeds (drive (Request 0 frame word) h)) ≡ sight n (after_frame (deeds h) (call_of 0 frame word) frame)
sight_then n frame word h c runs now settled =
    let e = Request 0 frame word in
    let once = event_runs e h runs in
    let done = deeds h in
    let call = call_of 0 frame word in
    let o = body_to done call frame in
    let behind = after_frame done call frame in
    sight_behind n e h runs now.entered
    ∙ (ap (sight n) (request_deeds frame word h once c.entered c.there)
    ∙ (sight_unswept n (has_settled (replied call o behind)) (replied call o behind) (settled_replied call o behind ∙ settled) ∙ sight_replied n call o behind))

-- ---- what comes of a request

pub record ComesOf (asked : TMsg) (word : List ℕ) (h : History) (done : List Deed) (o : Option RBody) : Type 0 where
  pub idle : IsIdle (drive (Request 0 (t_frame asked) word) h)
  pub replies : replies_to (Request 0 (t_frame asked) word) h ≡ own_reply (call_of 0 (t_frame asked) word) o
  pub questions : questions_to (Request 0 (t_frame asked) word) h ≡ to_put done
  pub sees : (n : ℕ) → sight n (deeds (drive (Request 0 (t_frame asked) word) h)) ≡ sight n done
  pub askers : (call : ℕ) → asker (deeds (drive (Request 0 (t_frame asked) word) h)) call ≡ asker done call
  pub once : (n : ℕ) → standing_of (deeds (Request 0 (t_frame asked) word ∷ h)) n ≡ standing_of done n

pub comes_of : (asked : TMsg) (word : List ℕ) (h : History) (done : List Deed) (o : Option RBody) → IsIdle h → Runs (drive (Request 0 (t_frame asked) word) h)
    → after_frame (deeds h) (call_of 0 (t_frame asked) word) (t_frame asked) ≡ done → body_to (deeds h) (call_of 0 (t_frame asked) word) (t_frame asked) ≡ o → IsCalm (deeds (Request 0 (t_frame asked) word ∷ h)) → has_settled done ≡ false → ComesOf asked word h done o
comes_of asked word h done o idle runs after_so body_so calm unsettled =
    let frame = t_frame asked in
    let e = Request 0 frame word in
    let call = call_of 0 frame word in
    let old = deeds h in
    let once = event_runs e h runs in
    let all : answered old call frame ≡ replied call o done = ap (λ x. replied call x (after_frame old call frame)) body_so ∙ ap (replied call o) after_so in
    let c = idle.calm in
    let settled = settled_replied call o done ∙ unsettled in
    record {
      idle = idle_behind e h calm runs;
      replies = replies_so e h calm.there runs
          ∙ (request_left frame word h once c.entered c.there idle.taken
          ∙ (ap (λ x. own_reply call x ++ swept_replies (answered old call frame)) body_so
          ∙ (ap (λ d. own_reply call o ++ swept_replies d) all
          ∙ (ap (λ b. own_reply call o ++ cond b (filter_map reply_in (waits (replied call o done) 0)) []) settled
          ∙ append-nil (own_reply call o)))));
      questions = questions_so e h runs calm.entered ∙ (event_same to_put (record { answered = λ at tag body d. refl; sweeps = λ d. refl }) frame word h c once ∙ ap to_put after_so);
      sees = λ n. sight_then n frame word h c runs calm (ap has_settled after_so ∙ unsettled) ∙ ap (sight n) after_so;
      askers = λ n. asker_then frame word h c runs calm n ∙ ap (λ d. asker d n) after_so;
      once = λ n. event_same (λ d. standing_of d n) (record { answered = λ at tag body d. refl; sweeps = λ d. refl }) frame word h c once ∙ ap (λ d. standing_of d n) after_so;
    }

-- one that is granted
pub comes_granted : (asked : TMsg) (word : List ℕ) (h : History) (done : List Deed) (o : Option RBody) → IsIdle h → Runs (drive (Request 0 (t_frame asked) word) h)
    → granted (deeds h) (call_of 0 (t_frame asked) word) (t_frame asked) ≡ Ok asked.body → after (deeds h) (call_of 0 (t_frame asked) word) asked.body ≡ done → reply_of (deeds h) (call_of 0 (t_frame asked) word) asked.body ≡ o → IsCalm (deeds (Request 0 (t_frame asked) word ∷ h)) → has_settled done ≡ false → ComesOf asked word h done o
comes_granted asked word h done o idle runs g after_so body_so calm unsettled =
    let frame = t_frame asked in
    let call = call_of 0 frame word in
    comes_of asked word h done o idle runs (frame_by (deeds h) call frame (Ok asked.body) g ∙ after_so) (body_by (deeds h) call frame (Ok asked.body) g ∙ body_so) calm unsettled

-- ---- a conversation meets something

abbrev pub restand : Sight → Standing → Sight
restand v s = record { keys = v.keys; waiting = v.waiting; own = v.own; held = v.held; seated = v.seated; numbered = v.numbered; stands = s }

pub sight_talk : (n : ℕ) (call : calls.Call) (done : List Deed) → sight n (OfTalk n call ∷ done) ≡ restand (sight n done) (then_stands (standing_of done n) (standing_of done n).phase call)
sight_talk n call done = ap (restand (sight n done)) (stands_here n call done (standing_of done n) refl)
