-- A request that is written, and isn't refused, waits in its conversation, which needs nothing.
use Rattle.std.proofs.Common.{◌≡◌, ℕ, ◌<◌, List, ◌∷◌, ◌++◌, false, Some, Result, Ok, Err, refl, sym, ap, ◌∙◌}
use Rattle.nine.specs.declared.message.RBody.TheVariants as r
use Rattle.nine.specs.declared.message.TBody.{TBody}
use Rattle.nine.specs.declared.message.TBody.TheVariants as t
use Rattle.roles.specs.declared.need.Need.TheVariants.{Nothing}
use Rattle.talks.specs.Calls as calls
use Rattle.talks.specs.Standings.{Resting, Waiting, Standing, need_in, nothing_said, then_stands}
use Rattle.agent_history.specs.Deeds.{Deed, OfTalk}
use Rattle.agent_history.specs.Conversations.{conv_of, standing_of, talk}
use Rattle.agent_history.specs.Requests.{Call, after_frame, answered, body_for, granted}
use Rattle.agent_history.specs.Histories.{History, deeds}
use Rattle.agent_laws.proofs.GrowLaws.{none_refuses}
use Rattle.driven_agents.proofs.TakeLaws.{takes_change_none}
use Rattle.world_history.specs.Driving.{drive, is_refused, no_word, replies_to, writes}
use Rattle.world_history.specs.Talking.{Asks, request_text}
use Rattle.world_promises.specs.Telling.{idle}
use Rattle.world_promises.specs.Agents.{asked_as, begun_in, write_of}
use Rattle.driven_agents.specs.Idle.{IsIdle, Runs}
use Rattle.driven_agents.proofs.RunLaws.{event_runs}
use Rattle.driven_agents.proofs.TakenLaws.{replies_so}
use Rattle.driven_agents.proofs.LeftLaws.{own_reply, request_left, swept_replies}
use Rattle.driven_agents.proofs.WritesLaws.{write_call, write_calm, write_frame}
use Rattle.driven_agents.proofs.GrantLaws.{event_same}
use Rattle.world_promises.proofs.AskedTexts.{asked_text}
use Rattle.world_promises.proofs.EventDeeds.{body_by, frame_by}
use Rattle.world_promises.proofs.FrameReads.{write_granted}
use Rattle.world_promises.proofs.OpenRpc.{opens_rpc, phase_there, write_does, write_passes}
use Rattle.world_promises.proofs.RestLaws.{rests_need}
use Rattle.world_promises.proofs.TalkSides.{stands_here}

-- how it stands then
pub record IsStored (number : ℕ) (what : Asks) (h now : History) : Type 0 where
  pub stood : standing_of (deeds now) number ≡ idle (begun_in h number) (Waiting (asked_as what)) nothing_said
  pub rests : need_in (begun_in h number) ≡ Nothing

refused_so : (call : Call) (text : List ℕ) (more : _) → is_refused (own_reply call (Some (r.Error text)) ++ more) ≡ false → ⊥
refused_so call text more e = cc e

stored_at : (s : Standing) (request : _) → s.phase ≡ Resting → then_stands s s.phase (calls.Stored request) ≡ idle s.begun (Waiting request) nothing_said
stored_at s request e = ap (λ p. then_stands s p (calls.Stored request)) e

pub stored_so : (number fid : ℕ) (what : Asks) (h : History) → fid < 65536 → IsIdle h → conv_of (deeds h) 0 fid ≡ Some number → Runs (drive (write_of fid what) h) → is_refused (replies_to (write_of fid what) h) ≡ false → IsStored number what h (drive (write_of fid what) h)
stored_so number fid what h small idle_ there runs taken = by_grant (granted done call frame) refl
  where
    text : List ℕ
    text = request_text what

    done : List Deed
    done = deeds h

    call : Call
    call = write_call fid text

    frame : List ℕ
    frame = write_frame fid text

    once : Runs (writes fid text ∷ h)
    once = event_runs (writes fid text) h runs

    told : (g : Result TBody (List ℕ)) → granted done call frame ≡ g → replies_to (writes fid text) h ≡ own_reply call (body_for done call g) ++ swept_replies (answered done call frame)
    told g e =
        replies_so (writes fid text) h (write_calm fid text h idle_.calm once).there runs
        ∙ (request_left frame _ h once idle_.calm.entered idle_.calm.there idle_.taken
        ∙ ap (λ o. own_reply call o ++ swept_replies (answered done call frame)) (body_by done call frame g e))

    by_body : (body : TBody) → granted done call frame ≡ Ok body → body ≡ t.Write fid 0 text → IsStored number what h (drive (write_of fid what) h)
    by_body body e same =
        let e' : granted done call frame ≡ Ok (t.Write fid 0 text) = e ∙ ap (λ b. Ok b) same in
        let passed = none_refuses done call frame (t.Write fid 0 text) e' in
        let is = opens_rpc h fid number there in
        let tests = write_passes done call fid text passed.none is in
        let at_rest : (standing_of done number).phase ≡ Resting = sym (phase_there done fid number there) ∙ tests.0 in
        let does : after_frame done call frame ≡ OfTalk number (calls.Stored (asked_as what)) ∷ done =
        frame_by done call frame (Ok (t.Write fid 0 text)) e' ∙ write_does done call fid number text (asked_as what) is there (asked_text what tests.1) in
        record {
          stood = takes_change_none (writes fid text) h number
              ∙ (event_same (λ d. standing_of d number) (record { answered = λ at tag body d. refl; sweeps = λ d. refl }) (write_frame fid text) no_word h idle_.calm once
              ∙ (ap (λ d. standing_of d number) does
              ∙ (stands_here number (calls.Stored (asked_as what)) done (standing_of done number) refl
              ∙ stored_at (standing_of done number) (asked_as what) at_rest)));
          rests = rests_need (talk done number) at_rest;
        }

    by_grant : (g : Result TBody (List ℕ)) → granted done call frame ≡ g → IsStored number what h (drive (write_of fid what) h)
    by_grant (Err text) e = absurd (refused_so call text (swept_replies (answered done call frame)) (sym (ap is_refused (told (Err text) e)) ∙ taken))
    by_grant (Ok body) e = by_body body e (write_granted done call fid text body small idle_.calm.msize e)
