-- What changes no conversation: walks and openings.
use Rattle.std.proofs.Common.{◌≡◌, ℕ, List, [], ◌∷◌, Option, Some, None, Result, Ok, Err, refl, ap, ◌∙◌, codes}
use Rattle.nine.specs.declared.message.TMsg.{TMsg}
use Rattle.nine.specs.declared.message.TBody.{TBody}
use Rattle.nine.specs.declared.message.TBody.TheVariants as t
use Rattle.nine.specs.declared.message.RBody.{RBody}
use Rattle.nine.specs.Messages.{t_frame}
use Rattle.nine.specs.Decoding.{request_of}
use Rattle.file_tree.specs.declared.tree.Node.{Node}
use Rattle.file_tree.specs.Tree.{lead_to}
use Rattle.file_tree.specs.Calls.{node_of}
use Rattle.talks.specs.Standings.{standing}
use Rattle.agent_history.specs.declared.event.Event.TheVariants.{Request}
use Rattle.agent_history.specs.Deeds.{Deed, Swept, fid_of, was_hung}
use Rattle.agent_history.specs.Replies.{has_settled, swept}
use Rattle.agent_history.specs.Requests.{Call, after, after_frame, after_granted, answered, body_to, call_of, granted, replied, walking}
use Rattle.agent_history.specs.Histories.{History, deeds, entered}
use Rattle.agent_laws.proofs.GrowLaws.{last_or_not}
use Rattle.world_history.specs.Driving.{opened, opens, walked, walks}
use Rattle.driven_agents.specs.Driven.{OpeningsChangeNone}
use Rattle.driven_agents.proofs.EditGrows.{OkIs, granted_so, where_so}
use Rattle.driven_agents.proofs.FrameKinds.{frame_read, open_so, walk_so}
use Rattle.driven_agents.proofs.TakeLaws.{SameTalks, drive_same, entered_same, halts_same}

-- ---- requests that change none

-- a request that changes no conversation wherever it comes
abbrev pub Still : TBody → Type 0
Still body = (done : List Deed) (call : Call) → SameTalks done (after done call body)

walking_still : (conn newfid : ℕ) (found : Option Node) (done : List Deed) → SameTalks done (walking conn newfid found done)
walking_still conn newfid None done = λ conv. refl
walking_still conn newfid (Some node) done = λ conv. refl

walk_still : (fid newfid : ℕ) (names : List (List ℕ)) → Still (t.Walk fid newfid names)
unfolding after
walk_still fid newfid names done call = walking_still call.conn newfid (lead_to (node_of (fid_of done call.conn fid)) names) done

open_still : (fid mode : ℕ) → Still (t.Open fid mode)
unfolding after
open_still fid mode done call = λ conv. refl

after_still : (done : List Deed) (call : Call) (g : Result TBody (List ℕ)) → OkIs Still g → SameTalks done (after_granted done call g)
after_still done call (Err text) is = λ conv. refl
after_still done call (Ok body) is = is done call

frame_still : (done : List Deed) (call : Call) (frame : List ℕ) → ((m : TMsg) → request_of frame ≡ Some m → Still m.body) → SameTalks done (after_frame done call frame)
unfolding after_frame
frame_still done call frame is = after_still done call (granted done call frame) (granted_so Still done call frame is)

replied_same : (before : List Deed) (call : Call) (o : Option RBody) (done : List Deed) → SameTalks before done → SameTalks before (replied call o done)
replied_same before call None done same = same
replied_same before call (Some body) done same = same

swept_same : (before done : List Deed) → SameTalks before done → SameTalks before (swept done)
swept_same before done same = where_so (SameTalks before) (has_settled done) (Swept ∷ done) done (λ _. same) same

pub request_still : (H : History) (conn : ℕ) (frame word : List ℕ) → ((m : TMsg) → request_of frame ≡ Some m → Still m.body) → SameTalks (deeds H) (deeds (Request conn frame word ∷ H))
request_still H conn frame word is =
    let done = deeds H in
    let opened = entered conn done in
    let call = call_of conn frame word in
    last_or_not (SameTalks done) H (Request conn frame word) (halts_same done) (λ conv. refl)
    (where_so (SameTalks done) (was_hung done conn) done (swept (answered opened call frame)) (λ _ conv. refl)
    (swept_same done (answered opened call frame) (replied_same done call (body_to opened call frame) (after_frame opened call frame)
    (λ conv. frame_still opened call frame is conv ∙ entered_same conn done conv))))

-- ---- openings

walk_same : (fid : ℕ) (file : List ℕ) (H : History) → SameTalks (deeds H) (deeds (walks fid file ∷ H))
walk_same fid file H =
    let asked : TMsg = record { tag = 0; body = t.Walk 0 fid (codes "factotum" ∷ file ∷ []) } in
    request_still H 0 (t_frame asked) _ (λ m e. walk_so Still walk_still (t_frame asked) m.body (frame_read asked m e))

open_same : (fid : ℕ) (H : History) → SameTalks (deeds H) (deeds (opens fid ∷ H))
open_same fid H =
    let asked : TMsg = record { tag = 0; body = t.Open fid 2 } in
    request_still H 0 (t_frame asked) _ (λ m e. open_so Still open_still (t_frame asked) m.body (frame_read asked m e))

pub opened_same : (fid : ℕ) (H : History) → SameTalks (deeds H) (deeds (opened fid H))
opened_same fid H conv =
    let on = walked fid H in
    drive_same (opens fid) on conv ∙ open_same fid on conv ∙ drive_same (walks fid (codes "rpc")) H conv ∙ walk_same fid (codes "rpc") H conv

pub openings_change_none : OpeningsChangeNone
openings_change_none fid H conv = ap standing (opened_same fid H conv)
