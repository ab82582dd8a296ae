-- Where no fid ever came to name a file of lines, a write starts nothing and moves nothing, and a closing changes no conversation.
use Rattle.std.proofs.Common.{◌≡◌, ℕ, List, [], ◌∷◌, Bool, true, false, cond, eqb, Option, Some, None, Result, Ok, Err, refl, ap, ◌∙◌}
use Rattle.std.specs.Prelude.{is_some}
use Rattle.nine.specs.declared.message.TMsg.{TMsg}
use Rattle.nine.specs.declared.message.TBody.{TBody}
use Rattle.nine.specs.declared.message.TBody.TheVariants as t
use Rattle.nine.specs.declared.message.RBody.{RBody}
use Rattle.nine.specs.Messages.{t_frame}
use Rattle.nine.specs.Decoding.{request_of}
use Rattle.file_tree.specs.Calls.{node_of}
use Rattle.key_lists.specs.CtlLines.{CtlLine, carried_out, lines_of}
use Rattle.talks.specs.Requests.{RpcRequest}
use Rattle.talks.specs.Requests as rpc
use Rattle.talks.specs.declared.request.RpcFault.{RpcFault}
use Rattle.side_files.specs.declared.line.PromptKind.{PromptKind}
use Rattle.side_files.specs.declared.line.PromptKind.TheVariants as k
use Rattle.side_files.specs.Calls as side
use Rattle.side_files.specs.Replies as prompt
use Rattle.talks.specs.Calls as calls
use Rattle.talks.specs.Standings.{Phase, Resting, Waiting, Seeking, OnConfirm, OnNeedkey, OnServer, Kept, Standing, standing, then_stands}
use Rattle.agent_history.specs.declared.event.Event.TheVariants.{Request}
use Rattle.agent_history.specs.Deeds.{Deed, Halted, OfConnection, OfFids, OfKeys, OfPrompts, Clunked, Entered, Swept, fid_of, holder_of, keys_of, was_hung, was_opened}
use Rattle.agent_history.specs.Replies.{has_settled, swept}
use Rattle.agent_history.specs.SideFiles.{askers, file_of, is_of, kind_at, prompt_calls}
use Rattle.agent_history.specs.Conversations.{all_shut, all_withdrawn, closed, conv_of, ended_by, given_up_by, talk}
use Rattle.agent_history.specs.Requests.{Call, after, after_frame, after_granted, answered, body_to, call_of, granted, is_rpc, line_deed, lines_done, replied, replying, stored}
use Rattle.agent_history.specs.Histories.{History, deeds, entered}
use Rattle.agent_laws.proofs.ClosedLaws.{all_follow}
use Rattle.agent_laws.proofs.ConversationLaws.{all_searched}
use Rattle.agent_laws.proofs.GrowLaws.{last_or_not}
use Rattle.world_history.specs.Driving.{no_word}
use Rattle.driven_agents.specs.Quiet.{ClosingsChangeNone, NamesNoLines, WritesStartNone}
use Rattle.driven_agents.proofs.EditGrows.{OkIs, granted_so, where_so}
use Rattle.driven_agents.proofs.FrameKinds.{clunk_so, frame_read, write_so}
use Rattle.driven_agents.proofs.QuietLaws.{NoneAsked, fid_plain, no_kind, nobody_waits, none_asked, one_call}
use Rattle.driven_agents.proofs.TakeLaws.{SameTalks}

-- what is known of deeds: no file of lines was named, and nobody asked
pub record IsQuiet (done : List Deed) : Type 0 where
  pub names : NamesNoLines done
  pub asked : (kind : PromptKind) → NoneAsked (prompt_calls done kind)

pub quiet_deeds : (H : History) → NamesNoLines (deeds H) → IsQuiet (deeds H)
quiet_deeds H e = record { names = e; asked = none_asked (deeds H) (all_follow H) (all_searched H) e }

-- ---- what follows on a request, whatever it is about

entered_quiet : (at : ℕ) (done : List Deed) → IsQuiet done → IsQuiet (entered at done)
entered_quiet at done q = where_so IsQuiet (was_opened done at) done (OfConnection at Entered ∷ done) (λ _. q) (record { names = q.names; asked = q.asked })

-- what holds between deeds, kept by such as are about no conversation
pub record KeepsAside (R : List Deed → List Deed → Type 0) : Type 0 where
  pub same : (done : List Deed) → R done done
  pub enters : (before done : List Deed) (at : ℕ) → R (OfConnection at Entered ∷ before) done → R before done
  pub answers : (before done : List Deed) (call : Call) (o : Option RBody) → R before done → R before (replied call o done)
  pub sweeps : (before done : List Deed) → R before done → R before (Swept ∷ done)
  pub halts : (before done : List Deed) → R before done → R before (Halted ∷ done)

from_entered : (R : List Deed → List Deed → Type 0) → KeepsAside R → (b : Bool) (at : ℕ) (before done : List Deed) → R (cond b before (OfConnection at Entered ∷ before)) done → R before done
from_entered R k true at before done r = r
from_entered R k false at before done r = k.enters before done at r

after_so : (R : List Deed → List Deed → Type 0) → KeepsAside R → (done : List Deed) (call : Call) (g : Result TBody (List ℕ)) → OkIs (λ body. R done (after done call body)) g → R done (after_granted done call g)
after_so R k done call (Err text) is = k.same done
after_so R k done call (Ok body) is = is

frame_so : (R : List Deed → List Deed → Type 0) → KeepsAside R → (done : List Deed) (call : Call) (frame : List ℕ) → ((m : TMsg) → request_of frame ≡ Some m → R done (after done call m.body)) → R done (after_frame done call frame)
unfolding after_frame
frame_so R k done call frame is = after_so R k done call (granted done call frame) (granted_so (λ body. R done (after done call body)) done call frame is)

request_so : (R : List Deed → List Deed → Type 0) → KeepsAside R → (H : History) (conn : ℕ) (frame word : List ℕ) → ((m : TMsg) → request_of frame ≡ Some m → R (entered conn (deeds H)) (after (entered conn (deeds H)) (call_of conn frame word) m.body)) → R (deeds H) (deeds (Request conn frame word ∷ H))
request_so R k H conn frame word is =
    let done = deeds H in
    let opened = entered conn done in
    let call = call_of conn frame word in
    let all = answered opened call frame in
    let behind : R done all = k.answers done (after_frame opened call frame) call (body_to opened call frame) (from_entered R k (was_opened done conn) conn done (after_frame opened call frame) (frame_so R k opened call frame is)) in
    last_or_not (R done) H (Request conn frame word) (λ d. k.halts done d) (k.same done)
    (where_so (R done) (was_hung done conn) done (swept all) (λ _. k.same done) (where_so (R done) (has_settled all) (Swept ∷ all) all (λ _. k.sweeps done all behind) behind))

-- ---- writes

-- conversations were started with the same, and met the same since
abbrev pub SameBegun : List Deed → List Deed → Type 0
SameBegun before done = (conv : ℕ) → (standing (talk done conv)).begun ≡ (standing (talk before conv)).begun

begun_answers : (before done : List Deed) (call : Call) (o : Option RBody) → SameBegun before done → SameBegun before (replied call o done)
begun_answers before done call None same = same
begun_answers before done call (Some body) same = same

begun_kept : KeepsAside SameBegun
begun_kept = record { same = λ done conv. refl; enters = λ before done at same. same; answers = begun_answers; sweeps = λ before done same. same; halts = λ before done same. same }

stored_stands : (s : Standing) (phase : Phase) (request : RpcRequest) → (then_stands s phase (calls.Stored request)).begun ≡ s.begun
stored_stands s Resting request = refl
stored_stands s (Waiting other) request = refl
stored_stands s Seeking request = refl
stored_stands s (OnConfirm serial) request = refl
stored_stands s OnNeedkey request = refl
stored_stands s OnServer request = refl
stored_stands s (Kept answer) request = refl

one_stored : (b : Bool) (request : RpcRequest) (all : List calls.Call) → (standing (cond b (calls.Stored request ∷ all) all)).begun ≡ (standing all).begun
one_stored true request all = stored_stands (standing all) (standing all).phase request
one_stored false request all = refl

stored_begun : (o : Option ℕ) (r : Result RpcRequest RpcFault) (done : List Deed) → SameBegun done (stored o r done)
stored_begun None r done conv = refl
stored_begun (Some at) (Err fault) done conv = refl
stored_begun (Some at) (Ok request) done conv = one_stored (eqb at conv) request (talk done conv)

lines_begun : (conn : ℕ) (said : List CtlLine) (done : List Deed) → SameTalks done (lines_done conn said done)
lines_begun conn [] done conv = refl
lines_begun conn (line ∷ said) done conv = lines_begun conn said (OfKeys conn (line_deed line) ∷ done) conv

kind_begun : (o : Option PromptKind) (done one other : List Deed) → o ≡ None → SameBegun done other → SameBegun done (cond (is_some o) one other)
kind_begun None done one other e same = same
kind_begun (Some kind) done one other e same = absurd cc

write_begun : (done : List Deed) (call : Call) (fid offset : ℕ) (content : List ℕ) → IsQuiet done → SameBegun done (after done call (t.Write fid offset content))
unfolding after
write_begun done call fid offset content q =
    let node = node_of (fid_of done call.conn fid) in
    let lines = lines_done call.conn (carried_out (keys_of done) (lines_of content)) done in
    where_so (SameBegun done) (is_rpc node) _ _ (λ _. stored_begun (conv_of done call.conn fid) (rpc.request_of content) done)
    (kind_begun (kind_at node) done (replying (kind_at node) (prompt.reply_of content) done) lines (no_kind node (fid_plain done call.conn fid q.names))
    (λ conv. ap (λ all. (standing all).begun) (lines_begun call.conn (carried_out (keys_of done) (lines_of content)) done conv)))

pub writes_start_none : WritesStartNone
writes_start_none fid bytes H conv e =
    let asked : TMsg = record { tag = 0; body = t.Write fid 0 bytes } in
    let opened = entered 0 (deeds H) in
    request_so SameBegun begun_kept H 0 (t_frame asked) no_word
    (λ m r. write_so (λ body. SameBegun opened (after opened (call_of 0 (t_frame asked) no_word) body)) (λ f o c. write_begun opened (call_of 0 (t_frame asked) no_word) f o c (entered_quiet 0 (deeds H) (quiet_deeds H e))) (t_frame asked) m.body (frame_read asked m r)) conv

-- ---- closings

talks_answers : (before done : List Deed) (call : Call) (o : Option RBody) → SameTalks before done → SameTalks before (replied call o done)
talks_answers before done call None same = same
talks_answers before done call (Some body) same = same

talks_kept : KeepsAside SameTalks
talks_kept = record { same = λ done conv. refl; enters = λ before done at same. same; answers = talks_answers; sweeps = λ before done same. same; halts = λ before done same. same }

withdrawn_quiet : (convs : List ℕ) (done : List Deed) → IsQuiet done → IsQuiet (all_withdrawn convs done)
withdrawn_quiet [] done q = q
withdrawn_quiet (conv ∷ convs) done q =
    withdrawn_quiet convs (OfPrompts k.Needkey (side.Withdrawn conv) ∷ OfPrompts k.Confirm (side.Withdrawn conv) ∷ done) (record {
      names = q.names;
      asked = λ kind. one_call (is_of k.Needkey kind) (side.Withdrawn conv) (prompt_calls (OfPrompts k.Confirm (side.Withdrawn conv) ∷ done) kind) refl (one_call (is_of k.Confirm kind) (side.Withdrawn conv) (prompt_calls done kind) refl (q.asked kind));
    })

withdrawn_talks : (convs : List ℕ) (done : List Deed) → SameTalks done (all_withdrawn convs done)
withdrawn_talks [] done conv = refl
withdrawn_talks (one ∷ convs) done conv = withdrawn_talks convs (OfPrompts k.Needkey (side.Withdrawn one) ∷ OfPrompts k.Confirm (side.Withdrawn one) ∷ done) conv

closed_nobody : (kind : PromptKind) (done : List Deed) → askers done kind ≡ [] → closed kind done ≡ done
closed_nobody kind done none = ap (λ convs. cond (is_some (holder_of done (file_of kind))) done (all_shut kind convs done)) none ∙ either_same (is_some (holder_of done (file_of kind))) done
  where
    either_same : (b : Bool) (done : List Deed) → cond b done done ≡ done
    either_same true done = refl
    either_same false done = refl

clunk_talks : (done : List Deed) (call : Call) (fid : ℕ) → IsQuiet done → SameTalks done (after done call (t.Clunk fid))
unfolding after
clunk_talks done call fid q conv =
    let deed = OfFids call.conn (Clunked fid) in
    let gone = all_withdrawn (ended_by deed done) done in
    let quiet = withdrawn_quiet (ended_by deed done) done q in
    let nobody : (kind : PromptKind) → askers (deed ∷ gone) kind ≡ [] = λ kind. nobody_waits (deed ∷ gone) kind (quiet.asked kind) in
    let all : given_up_by deed done ≡ deed ∷ gone = ap (closed k.Needkey) (closed_nobody k.Confirm (deed ∷ gone) (nobody k.Confirm)) ∙ closed_nobody k.Needkey (deed ∷ gone) (nobody k.Needkey) in
    ap (λ d. talk d conv) all ∙ withdrawn_talks (ended_by deed done) done conv

pub closings_change_none : ClosingsChangeNone
closings_change_none fid H conv e =
    let asked : TMsg = record { tag = 0; body = t.Clunk fid } in
    let opened = entered 0 (deeds H) in
    ap standing (request_so SameTalks talks_kept H 0 (t_frame asked) no_word
    (λ m r. clunk_so (λ body. SameTalks opened (after opened (call_of 0 (t_frame asked) no_word) body)) (λ f. clunk_talks opened (call_of 0 (t_frame asked) no_word) f (entered_quiet 0 (deeds H) (quiet_deeds H e))) (t_frame asked) m.body (frame_read asked m r)) conv)
