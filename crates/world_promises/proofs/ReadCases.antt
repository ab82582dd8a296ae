-- What a read of a conversation that has a request does: it is refused, or the request is carried out, and its answer is told, or is
-- told to be too long, or is waited for.
use Rattle.std.proofs.Common.{◌≡◌, ℕ, ◌<◌, List, ◌∷◌, Bool, true, false, cond, Option, Some, None, Result, Ok, Err, refl, ap, ◌∙◌}
use Rattle.nine.specs.declared.message.TBody.{TBody}
use Rattle.nine.specs.declared.message.TBody.TheVariants as t
use Rattle.nine.specs.declared.message.RBody.TheVariants as r
use Rattle.nine.specs.Messages.{t_fields}
use Rattle.roles.specs.declared.need.Need.TheVariants.{Nothing}
use Rattle.talks.specs.RpcAnswers.{answer_text}
use Rattle.talks.specs.Requests.{RpcRequest}
use Rattle.talks.specs.declared.answer.RpcAnswer.{RpcAnswer}
use Rattle.talks.specs.declared.said.Said.{Said}
use Rattle.talks.specs.Calls as calls
use Rattle.talks.specs.Standings.{Begun, Phase, Resting, Waiting, Seeking, OnConfirm, OnNeedkey, OnServer, Kept, Standing, carried_out, need_in, then_stands}
use Rattle.agent_history.specs.Deeds.{Deed, OfReplies, OfTalk, Awaited, keys_of}
use Rattle.agent_history.specs.Replies.{too_small, waits_for, waits_under}
use Rattle.agent_history.specs.Conversations.{asking, conv_of, fits, opened_talks, speakers, standing_of}
use Rattle.agent_history.specs.Requests.{Call, after_frame, answer_read, body_to, granted, reading_answer}
use Rattle.agent_history.specs.Histories.{History, deeds}
use Rattle.agent_laws.proofs.ConversationLaws.{speakers_rise}
use Rattle.agent_laws.proofs.GrowLaws.{met_any, none_refuses, not_first}
use Rattle.driven_agents.proofs.KeyLaws.{keys_are_keys}
use Rattle.world_promises.specs.Telling.{idle, is_driven}
use Rattle.driven_agents.specs.Idle.{IsCalm, IsIdle}
use Rattle.driven_agents.proofs.IdleStillLaws.{IsStill, still_met, still_of}
use Rattle.world_promises.proofs.CarriedLaws.{kept_calm, waiting_calm}
use Rattle.world_promises.proofs.EndPhases.{IsUp, carried_up, searched_up}
use Rattle.world_promises.proofs.EventDeeds.{Does, body_by, frame_by, read_call, read_frame}
use Rattle.world_promises.proofs.FrameReads.{read_granted, tag_again}
use Rattle.world_promises.proofs.MetDeeds.{MetSo, met_so}
use Rattle.world_promises.proofs.OpenRpc.{carried_on, opens_rpc, phase_there, read_does, read_passes, read_replies}
use Rattle.world_promises.proofs.SearchEnds.{searches_enough}
use Rattle.world_promises.proofs.SeatLaws.{AreMine, all_mine}
use Rattle.world_promises.proofs.TalkSides.{stands_here, talk_going}

pub data ReadCase : ℕ → ℕ → List ℕ → RpcRequest → Standing → History → Type 0 where
  is_refused : {number fid : ℕ} {word : List ℕ} {request : RpcRequest} {s : Standing} {h : History} (text : List ℕ) → Does fid word h (deeds h) (Some (r.Error text)) → ReadCase number fid word request s h
  is_told : {number fid : ℕ} {word : List ℕ} {request : RpcRequest} {s : Standing} {h : History} (now : List Deed) (answer : RpcAnswer) → MetSo number word request s (deeds h) now → (standing_of now number).phase ≡ Kept answer
      → Does fid word h (OfTalk number calls.Took ∷ now) (Some (r.Read (answer_text answer))) → ReadCase number fid word request s h
  isnt_told : {number fid : ℕ} {word : List ℕ} {request : RpcRequest} {s : Standing} {h : History} (now : List Deed) (answer : RpcAnswer) → MetSo number word request s (deeds h) now → (standing_of now number).phase ≡ Kept answer
      → fits 8192 answer ≡ false → Does fid word h now (Some too_small) → ReadCase number fid word request s h
  is_awaited : {number fid : ℕ} {word : List ℕ} {request : RpcRequest} {s : Standing} {h : History} (now : List Deed) → MetSo number word request s (deeds h) now → (standing_of now number).phase ≡ OnServer
      → Does fid word h (OfReplies 0 (Awaited fid fid 8192) ∷ now) None → ReadCase number fid word request s h

-- what is known of a read that is granted
record Granted (number fid : ℕ) (word : List ℕ) (request : RpcRequest) (s : Standing) (h : History) (now : List Deed) : Type 0 where
  after : after_frame (deeds h) (read_call fid word) (read_frame fid) ≡ reading_answer (read_call fid word) number fid 8192 (standing_of now number).phase now
  body : body_to (deeds h) (read_call fid word) (read_frame fid) ≡ answer_read 8192 (standing_of now number).phase
  met : MetSo number word request s (deeds h) now
  calm : IsCalm (deeds h)
  still : IsStill now
  mine : AreMine number fid (speakers (deeds h))
  free : waits_for (deeds h) 0 fid ≡ false
  tag : (read_call fid word).tag ≡ fid

took_phase : (number : ℕ) (now : List Deed) (answer : RpcAnswer) → (standing_of now number).phase ≡ Kept answer → (standing_of (OfTalk number calls.Took ∷ now) number).phase ≡ Resting
took_phase number now answer e =
    ap (λ s. s.phase) (stands_here number calls.Took now (standing_of now number) refl) ∙ ap (λ p. (then_stands (standing_of now number) p calls.Took).phase) e

by_fit : (number fid : ℕ) (word : List ℕ) (request : RpcRequest) (s : Standing) (h : History) (now : List Deed) (answer : RpcAnswer) → Granted number fid word request s h now → (standing_of now number).phase ≡ Kept answer → (b : Bool) → fits 8192 answer ≡ b → ReadCase number fid word request s h
by_fit number fid word request s h now answer g e true is =
    is_told now answer g.met e (record {
      after = g.after ∙ (ap (λ p. reading_answer (read_call fid word) number fid 8192 p now) e ∙ ap (λ b. cond b (OfTalk number calls.Took ∷ now) now) is);
      body = g.body ∙ (ap (answer_read 8192) e ∙ ap (λ b. Some (cond b (r.Read (answer_text answer)) too_small)) is);
      calm = kept_calm number fid (deeds h) (OfTalk number calls.Took ∷ now) Resting g.calm g.mine (still_met now (OfTalk number calls.Took) refl g.still) (talk_going number (deeds h) now calls.Took g.met.going) (took_phase number now answer e) (λ x. cc x);
    })
by_fit number fid word request s h now answer g e false is =
    isnt_told now answer g.met e is (record {
      after = g.after ∙ (ap (λ p. reading_answer (read_call fid word) number fid 8192 p now) e ∙ ap (λ b. cond b (OfTalk number calls.Took ∷ now) now) is);
      body = g.body ∙ (ap (answer_read 8192) e ∙ ap (λ b. Some (cond b (r.Read (answer_text answer)) too_small)) is);
      calm = kept_calm number fid (deeds h) now (Kept answer) g.calm g.mine g.still g.met.going e (λ x. cc x);
    })

by_phase : (number fid : ℕ) (word : List ℕ) (request : RpcRequest) (s : Standing) (h : History) (now : List Deed) → Granted number fid word request s h now → (phase : Phase) → (standing_of now number).phase ≡ phase → IsUp phase → (phase ≡ Seeking → ⊥) → ReadCase number fid word request s h
by_phase number fid word request s h now g (Kept answer) e up rests = by_fit number fid word request s h now answer g e (fits 8192 answer) refl
by_phase number fid word request s h now g OnServer e up rests =
    is_awaited now g.met e (record {
      after = g.after ∙ (ap (λ p. reading_answer (read_call fid word) number fid 8192 p now) e ∙ ap (λ n. OfReplies 0 (Awaited n fid 8192) ∷ now) g.tag);
      body = g.body ∙ ap (answer_read 8192) e;
      calm = waiting_calm number fid (deeds h) now g.calm g.mine g.still g.met.going g.free;
    })
by_phase number fid word request s h now g Seeking e up rests = absurd (rests refl)
by_phase number fid word request s h now g Resting e up rests = absurd up
by_phase number fid word request s h now g (Waiting asked) e up rests = absurd up
by_phase number fid word request s h now g (OnConfirm serial) e up rests = absurd up
by_phase number fid word request s h now g OnNeedkey e up rests = absurd up

pub read_case : (number fid : ℕ) (word : List ℕ) (request : RpcRequest) (begun : Option Begun) (said : Said) (h : History) → fid < 65536 → IsIdle h → conv_of (deeds h) 0 fid ≡ Some number → standing_of (deeds h) number ≡ idle begun (Waiting request) said → need_in begun ≡ Nothing → is_driven request ≡ true
    → ReadCase number fid word request (idle begun (Waiting request) said) h
read_case number fid word request begun said h small idle_ there stood none driven = by_grant (granted done call frame) refl
  where
    done : List Deed
    done = deeds h

    call : Call
    call = read_call fid word

    frame : List ℕ
    frame = read_frame fid

    s : Standing
    s = idle begun (Waiting request) said

    waits : (standing_of done number).phase ≡ Waiting request
    waits = ap (λ x. x.phase) stood

    by_body : granted done call frame ≡ Ok (t.Read fid 0 8192) → ReadCase number fid word request (idle begun (Waiting request) said) h
    by_body e =
        let passed = none_refuses done call frame (t.Read fid 0 8192) e in
        let unused = not_first (waits_under done call.conn call.tag) passed.unused in
        let is = opens_rpc h fid number there in
        let now = carried_on number word done in
        let met : MetSo number word request s done now = met_so number word request s done idle_.calm.names stood refl (searches_enough begun (Waiting request) said word request (keys_of done) (asking done) (keys_are_keys h) none driven) in
        let up = searched_up (carried_out s word request) (standing_of now number) met.searches (carried_up s word request) in
        by_phase number fid word request s h now
        (record {
          after = frame_by done call frame (Ok (t.Read fid 0 8192)) e ∙ read_does done call fid number request is idle_.calm.msize there waits;
          body = body_by done call frame (Ok (t.Read fid 0 8192)) e ∙ read_replies done call fid number request is idle_.calm.msize there waits;
          met = met;
          calm = idle_.calm;
          still = met_any IsStill still_met number (calls.CarriedOut word) done (still_of done idle_.calm);
          mine = all_mine (opened_talks done) fid number (speakers done) (speakers_rise h) there;
          free = read_passes done call fid request passed.none unused is (phase_there done fid number there ∙ waits);
          tag = tag_again 116 fid (t_fields (t.Read fid 0 8192)) small;
        })
        (standing_of now number).phase refl up.0 up.1

    by_grant : (g : Result TBody (List ℕ)) → granted done call frame ≡ g → ReadCase number fid word request (idle begun (Waiting request) said) h
    by_grant (Err text) e = is_refused text (record { after = frame_by done call frame (Err text) e; body = body_by done call frame (Err text) e; calm = idle_.calm })
    by_grant (Ok body) e = by_body (e ∙ ap (λ b. Ok b) (read_granted done call fid body small e))
