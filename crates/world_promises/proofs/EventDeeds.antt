-- What comes of a read, by what it does and what is replied to it.
use Rattle.std.proofs.Common.{◌≡◌, ℕ, List, [], ◌∷◌, ◌++◌, cond, Option, Result, refl, sym, ap, subst, ◌∙◌, append-nil}
use Rattle.std.specs.List.{filter_map}
use Rattle.nine.specs.declared.message.TBody.{TBody}
use Rattle.nine.specs.declared.message.RBody.{RBody}
use Rattle.nine.specs.Messages.{t_frame}
use Rattle.agent_history.specs.Deeds.{Deed}
use Rattle.agent_history.specs.Replies.{reply_in, waits}
use Rattle.agent_history.specs.Requests.{Call, after_frame, after_granted, answered, body_for, body_to, call_of, granted, replied}
use Rattle.agent_history.specs.Conversations.{asker, opened_talks, speakers, standing_of}
use Rattle.agent_history.specs.Histories.{History, deeds}
use Rattle.world_history.specs.Driving.{drive, questions_to, reads, replies_to}
use Rattle.driven_agents.proofs.TakeLaws.{takes_change_none}
use Rattle.driven_agents.specs.Idle.{IsCalm, IsIdle, Runs}
use Rattle.driven_agents.proofs.RunLaws.{event_runs}
use Rattle.driven_agents.proofs.TakenLaws.{replies_so}
use Rattle.driven_agents.proofs.HandedLaws.{questions_so, to_put}
use Rattle.driven_agents.proofs.IdleLaws.{idle_behind}
use Rattle.driven_agents.proofs.LeftLaws.{own_reply, request_left, swept_replies}
use Rattle.driven_agents.proofs.AlikeLaws.{calm_replied}
use Rattle.driven_agents.proofs.GrantLaws.{asker_then, calm_event, event_same, opened_then, speakers_then}
use Rattle.world_promises.proofs.FrameReads.{read_msg}

abbrev pub read_frame : ℕ → List ℕ
read_frame fid = t_frame (read_msg fid)

abbrev pub read_call : ℕ → List ℕ → Call
read_call fid word = call_of 0 (read_frame fid) word

-- what a read does but for its reply, and its reply
pub record Does (fid : ℕ) (word : List ℕ) (h : History) (done : List Deed) (o : Option RBody) : Type 0 where
  pub after : after_frame (deeds h) (read_call fid word) (read_frame fid) ≡ done
  pub body : body_to (deeds h) (read_call fid word) (read_frame fid) ≡ o
  pub calm : IsCalm done

pub frame_by : (done : List Deed) (call : Call) (frame : List ℕ) (g : Result TBody (List ℕ)) → granted done call frame ≡ g → after_frame done call frame ≡ after_granted done call g
unfolding after_frame
frame_by done call frame g e = ap (after_granted done call) e

pub body_by : (done : List Deed) (call : Call) (frame : List ℕ) (g : Result TBody (List ℕ)) → granted done call frame ≡ g → body_to done call frame ≡ body_for done call g
unfolding body_to
body_by done call frame g e = ap (body_for done call) e

-- what comes of it
pub record CameOf (fid : ℕ) (word : List ℕ) (h : History) (done : List Deed) (o : Option RBody) : Type 0 where
  pub idle : IsIdle (drive (reads fid word) h)
  pub replies : replies_to (reads fid word) h ≡ own_reply (read_call fid word) o
  pub questions : questions_to (reads fid word) h ≡ to_put done
  pub stands : (n : ℕ) → standing_of (deeds (reads fid word ∷ h)) n ≡ standing_of done n
  pub now : (n : ℕ) → standing_of (deeds (drive (reads fid word) h)) n ≡ standing_of done n
  pub seated : speakers (deeds (drive (reads fid word) h)) ≡ speakers done
  pub opened : opened_talks (deeds (drive (reads fid word) h)) ≡ opened_talks done
  pub askers : (call : ℕ) → asker (deeds (drive (reads fid word) h)) call ≡ asker done call

pub came_of : (fid : ℕ) (word : List ℕ) (h : History) (done : List Deed) (o : Option RBody) → IsIdle h → Runs (drive (reads fid word) h) → Does fid word h done o → CameOf fid word h done o
came_of fid word h done o idle runs does =
    let e = reads fid word in
    let call = read_call fid word in
    let frame = read_frame fid in
    let old = deeds h in
    let once = event_runs e h runs in
    let all : answered old call frame ≡ replied call o done = ap (λ x. replied call x (after_frame old call frame)) does.body ∙ ap (replied call o) does.after in
    let c = idle.calm in
    let calm = calm_event frame word h c once (subst IsCalm (sym does.after) does.calm) in
    let settled = (calm_replied call o done does.calm).settled in
    let stands = λ (n : ℕ). event_same (λ d. standing_of d n) (record { answered = λ at tag body d. refl; sweeps = λ d. refl }) frame word h c once ∙ ap (λ d. standing_of d n) does.after in
    record {
      idle = idle_behind e h calm runs;
      replies = replies_so e h calm.there runs
          ∙ (request_left frame word h once c.entered c.there idle.taken
          ∙ (ap (λ x. own_reply call x ++ swept_replies (answered old call frame)) does.body
          ∙ (ap (λ d. own_reply call o ++ swept_replies d) all
          ∙ (ap (λ b. own_reply call o ++ cond b (filter_map reply_in (waits (replied call o done) 0)) []) settled
          ∙ append-nil (own_reply call o)))));
      questions = questions_so e h runs calm.entered ∙ (event_same to_put (record { answered = λ at tag body d. refl; sweeps = λ d. refl }) frame word h c once ∙ ap to_put does.after);
      stands = stands;
      now = λ n. takes_change_none e h n ∙ stands n;
      seated = speakers_then frame word h c runs calm ∙ ap speakers does.after;
      opened = opened_then frame word h c runs calm ∙ ap opened_talks does.after;
      askers = λ n. asker_then frame word h c runs calm n ∙ ap (λ d. asker d n) does.after;
    }
