-- A write leaves an agent idle, whatever is written and to whatever fid; it changes no conversation's fid and no question, and
-- its reply gives nothing that was read.
use Rattle.std.proofs.Common.{◌≡◌, ℕ, List, [], ◌∷◌, length, Bool, true, false, cond, eqb, ◌||◌, Option, Some, None, refl, sym, ap, subst, ◌∙◌}
use Rattle.std.specs.Prelude.{Result, Ok, Err, find, is_some, option_map}
use Rattle.nine.specs.declared.message.TMsg.{TMsg}
use Rattle.nine.specs.declared.message.TBody.{TBody}
use Rattle.nine.specs.declared.message.TBody.TheVariants as t
use Rattle.nine.specs.declared.message.RBody.TheVariants as r
use Rattle.nine.specs.Messages.{t_frame}
use Rattle.nine.specs.Decoding.{request_of}
use Rattle.file_tree.specs.Calls.{node_of}
use Rattle.key_lists.specs.CtlLines.{CtlLine, carried_out, lines_fault, lines_of}
use Rattle.talks.specs.Requests.{RpcRequest}
use Rattle.talks.specs.Requests as rpc
use Rattle.talks.specs.declared.request.RpcFault.{RpcFault}
use Rattle.side_files.specs.declared.line.PromptKind.{PromptKind}
use Rattle.side_files.specs.Replies as prompt
use Rattle.talks.specs.Calls as calls
use Rattle.talks.specs.Standings.{Phase, Resting, OnServer, Standing, standing, then_stands}
use Rattle.agent_history.specs.Deeds.{Deed, OfKeys, fid_of, keys_of}
use Rattle.agent_history.specs.SideFiles.{kind_at}
use Rattle.agent_history.specs.Conversations.{asker, conv_of, talk}
use Rattle.agent_history.specs.Requests.{Call, after, after_frame, answered, body_to, call_of, granted, is_rpc, line_deed, lines_done, replying, reply_of, stored, written}
use Rattle.agent_history.specs.Histories.{History, deeds}
use Rattle.agent_laws.specs.Laws.{gives_content}
use Rattle.world_history.specs.Driving.{drive, no_word, replies_to, writes}
use Rattle.driven_agents.proofs.EditGrows.{granted_so, where_so}
use Rattle.driven_agents.proofs.FrameKinds.{frame_read, write_so}
use Rattle.driven_agents.proofs.QuietLaws.{fid_plain, no_kind}
use Rattle.driven_agents.specs.Quiet.{NamesNoLines}
use Rattle.driven_agents.specs.Idle.{IsCalm, IsIdle, Runs, SameSeats}
use Rattle.driven_agents.proofs.AlikeLaws.{Alike, GivesNone, IsBare, alike_calm, alike_itself, body_bare, calm_replied, granted_keeps, none_swept, own_gives_none}
use Rattle.driven_agents.proofs.IdleLaws.{idle_behind}
use Rattle.driven_agents.proofs.LeftLaws.{request_left, swept_replies}
use Rattle.driven_agents.proofs.RunLaws.{event_runs}
use Rattle.driven_agents.proofs.TakenLaws.{replies_so}
use Rattle.driven_agents.proofs.GrantLaws.{asker_then, calm_event, opened_then, speakers_then}

-- ---- what a write does

stored_waits : (s : Standing) (phase : Phase) (request : RpcRequest) → s.phase ≡ phase → (then_stands s phase (calls.Stored request)).phase ≡ OnServer → s.phase ≡ OnServer
stored_waits s Resting request is on = absurd cc
stored_waits s phase request is on = on

one_stored : (b : Bool) (request : RpcRequest) (all : List calls.Call) → (standing (cond b (calls.Stored request ∷ all) all)).phase ≡ OnServer → (standing all).phase ≡ OnServer
one_stored true request all on = stored_waits (standing all) (standing all).phase request refl on
one_stored false request all on = on

stored_alike : (o : Option ℕ) (came : Result RpcRequest RpcFault) (done : List Deed) → NamesNoLines done → Alike done (stored o came done)
stored_alike None came done names = alike_itself done names
stored_alike (Some at) (Err fault) done names = alike_itself done names
stored_alike (Some at) (Ok request) done names = record {
  names = names;
  entered = refl;
  there = refl;
  msize = refl;
  root = refl;
  speaking = refl;
  opened = refl;
  waiting = refl;
  settled = refl;
  asked = refl;
  phases = λ conv on. one_stored (eqb at conv) request (talk done conv) on;
}

lines_alike : (conn : ℕ) (said : List CtlLine) (first done : List Deed) → Alike first done → Alike first (lines_done conn said done)
lines_alike conn [] first done a = a
lines_alike conn (line ∷ said) first done a = lines_alike conn said first (OfKeys conn (line_deed line) ∷ done) (record {
  names = a.names;
  entered = a.entered;
  there = a.there;
  msize = a.msize;
  root = a.root;
  speaking = a.speaking;
  opened = a.opened;
  waiting = a.waiting;
  settled = a.settled;
  asked = a.asked;
  phases = a.phases;
})

no_kind_alike : (o : Option PromptKind) (done one other : List Deed) → o ≡ None → Alike done other → Alike done (cond (is_some o) one other)
no_kind_alike None done one other none a = a
no_kind_alike (Some kind) done one other none a = absurd cc

write_alike : (done : List Deed) (call : Call) (fid offset : ℕ) (content : List ℕ) → NamesNoLines done → Alike done (after done call (t.Write fid offset content))
unfolding after
write_alike done call fid offset content names =
    let node = node_of (fid_of done call.conn fid) in
    let lines = lines_done call.conn (carried_out (keys_of done) (lines_of content)) done in
    where_so (Alike done) (is_rpc node) _ _ (λ _. stored_alike (conv_of done call.conn fid) (rpc.request_of content) done names)
    (no_kind_alike (kind_at node) done (replying (kind_at node) (prompt.reply_of content) done) lines (no_kind node (fid_plain done call.conn fid names))
    (lines_alike call.conn (carried_out (keys_of done) (lines_of content)) done done (alike_itself done names)))

-- ---- what it replies

written_bare : (content : List ℕ) (o : Option (List ℕ)) → gives_content (written content o) ≡ false
written_bare content None = refl
written_bare content (Some text) = refl

reply_bare : (b : Bool) (content : List ℕ) (o : Option (List ℕ)) → gives_content (cond b (r.Write (length content)) (written content o)) ≡ false
reply_bare true content o = refl
reply_bare false content o = written_bare content o

write_bare : (done : List Deed) (call : Call) (fid offset : ℕ) (content : List ℕ) → IsBare (reply_of done call (t.Write fid offset content))
unfolding reply_of
write_bare done call fid offset content = let node = node_of (fid_of done call.conn fid) in reply_bare (is_rpc node || is_some (kind_at node)) content (lines_fault (keys_of done) (lines_of content))

-- ---- the event

abbrev pub write_asked : ℕ → List ℕ → TMsg
write_asked fid bytes = record { tag = 0; body = t.Write fid 0 bytes }

abbrev pub write_frame : ℕ → List ℕ → List ℕ
write_frame fid bytes = t_frame (write_asked fid bytes)

abbrev pub write_call : ℕ → List ℕ → Call
write_call fid bytes = call_of 0 (write_frame fid bytes) no_word

any_write : (P : TBody → Type 0) → ((fid offset : ℕ) (content : List ℕ) → P (t.Write fid offset content)) → (fid : ℕ) (bytes : List ℕ) (m : TMsg) → request_of (write_frame fid bytes) ≡ Some m → P m.body
any_write P each fid bytes m is = write_so P each (write_frame fid bytes) m.body (frame_read (write_asked fid bytes) m is)

frame_alike : (fid : ℕ) (bytes : List ℕ) (done : List Deed) → NamesNoLines done → Alike done (after_frame done (write_call fid bytes) (write_frame fid bytes))
unfolding after_frame
frame_alike fid bytes done names =
    let call = write_call fid bytes in
    let frame = write_frame fid bytes in
    granted_keeps (Alike done) done call (granted done call frame) (alike_itself done names)
    (granted_so (λ body. Alike done (after done call body)) done call frame (λ m is. any_write (λ body. Alike done (after done call body)) (λ f o c. write_alike done call f o c names) fid bytes m is))

frame_bare : (fid : ℕ) (bytes : List ℕ) (done : List Deed) → IsBare (body_to done (write_call fid bytes) (write_frame fid bytes))
unfolding body_to
frame_bare fid bytes done =
    let call = write_call fid bytes in
    let frame = write_frame fid bytes in
    body_bare done call (granted done call frame)
    (granted_so (λ body. IsBare (reply_of done call body)) done call frame (λ m is. any_write (λ body. IsBare (reply_of done call body)) (λ f o c. write_bare done call f o c) fid bytes m is))

pub write_calm : (fid : ℕ) (bytes : List ℕ) (h : History) → IsCalm (deeds h) → Runs (writes fid bytes ∷ h) → IsCalm (deeds (writes fid bytes ∷ h))
write_calm fid bytes h calm runs =
    let done = deeds h in
    let frame = write_frame fid bytes in
    calm_event frame no_word h calm runs (alike_calm done (after_frame done (write_call fid bytes) frame) (frame_alike fid bytes done calm.names) calm)

pub record WriteSo (fid : ℕ) (bytes : List ℕ) (h : History) : Type 0 where
  pub idle : IsIdle (drive (writes fid bytes) h)
  pub seats : SameSeats h (drive (writes fid bytes) h)
  pub askers : (call : ℕ) → asker (deeds (drive (writes fid bytes) h)) call ≡ asker (deeds h) call
  pub replies : GivesNone (replies_to (writes fid bytes) h)

pub write_is : (fid : ℕ) (bytes : List ℕ) (h : History) → IsIdle h → Runs (drive (writes fid bytes) h) → WriteSo fid bytes h
write_is fid bytes h idle runs =
    let calm = idle.calm in
    let once = event_runs (writes fid bytes) h runs in
    let done = deeds h in
    let call = write_call fid bytes in
    let frame = write_frame fid bytes in
    let now = write_calm fid bytes h calm once in
    let a = frame_alike fid bytes done calm.names in
    record {
      idle = idle_behind (writes fid bytes) h now runs;
      seats = record { speakers = speakers_then frame no_word h calm runs now ∙ a.speaking; opened = opened_then frame no_word h calm runs now ∙ a.opened };
      askers = λ n. asker_then frame no_word h calm runs now n ∙ ap (λ qs. option_map (λ q. q.conv) (find (λ q. eqb q.call n) qs)) a.asked;
      replies = subst GivesNone (sym (replies_so (writes fid bytes) h now.there runs ∙ request_left frame no_word h once calm.entered calm.there idle.taken))
          (own_gives_none call (body_to done call frame) (swept_replies (answered done call frame)) (frame_bare fid bytes done) (none_swept (answered done call frame) (calm_replied call (body_to done call frame) (after_frame done call frame) (alike_calm done (after_frame done call frame) a calm)).settled));
    }
