-- What holds before a request of a connection, and after each deed that the request may do, holds after it.
use Rattle.std.proofs.Common.{ℕ, List, [], ◌∷◌, Bool, true, false, cond, eqb, Option, Some, None, Result, Ok, Err}
use Rattle.std.specs.Prelude.{is_some}
use Rattle.nine.specs.declared.message.TBody.{TBody}
use Rattle.nine.specs.declared.message.TBody.TheVariants as t
use Rattle.nine.specs.declared.message.RBody.{RBody}
use Rattle.file_tree.specs.declared.tree.Node.{Node}
use Rattle.file_tree.specs.declared.tree.Node.TheVariants as n
use Rattle.file_tree.specs.Tree.{lead_to}
use Rattle.file_tree.specs.Calls.{node_of}
use Rattle.key_lists.specs.CtlLines.{CtlLine, lines_of, carried_out}
use Rattle.talks.specs.Requests.{RpcRequest}
use Rattle.talks.specs.Requests as rpc
use Rattle.talks.specs.declared.request.RpcFault.{RpcFault}
use Rattle.side_files.specs.Calls as side
use Rattle.side_files.specs.declared.line.PromptKind.{PromptKind}
use Rattle.side_files.specs.declared.reply.Reply.{Reply as Answer}
use Rattle.side_files.specs.Lines.{Found, Nothing, TooLong, First, found}
use Rattle.side_files.specs.Questions.{asker_of}
use Rattle.side_files.specs.Replies as prompt
use Rattle.talks.specs.Calls as calls
use Rattle.talks.specs.Standings.{Phase, Resting, Waiting, Seeking, OnConfirm, OnNeedkey, OnServer, Kept}
use Rattle.agent_history.specs.Deeds.{Deed, FidDeed, KeyDeed, OfFids, OfKeys, OfPrompts, OfConnection, Versioned, Walked, Listed, Clunked, Answered, Awaited, Entered, msize_of, fid_of, keys_of, was_opened}
use Rattle.agent_history.specs.Conversations.{conv_of, standing_of}
use Rattle.agent_history.specs.SideFiles.{is_line_file, kind_at, lines_in, prompts_of}
use Rattle.agent_history.specs.Histories.{entered}
use Rattle.agent_history.specs.Requests.{Call, after, after_frame, after_granted, agreed, answered, body_to, carried, effective, granted, is_rpc, line_deed, lines_done, reading, reading_answer, reading_file, reading_line, reading_talk, replied, replying, said_by, stored, walking, writing}
use Rattle.agent_requests.proofs.OwnDeeds.{OfAll, OfTalks, carried_all, ended_all, read_talks, resumed_all, took_talks}

-- ---- reads of rpc

answer_all : (P : List Deed → Type 0) → OfAll P → (call : Call) (conv fid count : ℕ) (phase : Phase) (done : List Deed) → P done → P (reading_answer call conv fid count phase done)
answer_all P all call conv fid count (Kept answer) done h = took_talks P all.talks conv count answer done h
answer_all P all call conv fid count Resting done h = all.replies call.conn (Awaited call.tag fid count) done h
answer_all P all call conv fid count (Waiting request) done h = all.replies call.conn (Awaited call.tag fid count) done h
answer_all P all call conv fid count Seeking done h = all.replies call.conn (Awaited call.tag fid count) done h
answer_all P all call conv fid count (OnConfirm serial) done h = all.replies call.conn (Awaited call.tag fid count) done h
answer_all P all call conv fid count OnNeedkey done h = all.replies call.conn (Awaited call.tag fid count) done h
answer_all P all call conv fid count OnServer done h = all.replies call.conn (Awaited call.tag fid count) done h

pub talk_all : (P : List Deed → Type 0) → OfAll P → (call : Call) (fid count : ℕ) (conv : Option ℕ) (done : List Deed) → P done → P (reading_talk call fid count conv done)
talk_all P all call fid count None done h = h
talk_all P all call fid count (Some conv) done h =
    let now : List Deed = carried conv call.word done in
    answer_all P all call conv fid count (standing_of now conv).phase now (carried_all P all conv call.word done h)

-- ---- reads of files of lines

pub line_all : (P : List Deed → Type 0) → OfAll P → (call : Call) (fid count : ℕ) (node : Node) (what : Found) (done : List Deed) → P done → P (reading_line call fid count node what done)
line_all P all call fid count node Nothing done h = all.replies call.conn (Awaited call.tag fid count) done h
line_all P all call fid count node TooLong done h = h
line_all P all call fid count node (First line) done h = read_talks P all.talks node done h

-- ---- writes of rpc, and of files of questions

pub stored_talks : (P : List Deed → Type 0) → OfTalks P → (conv : Option ℕ) (request : Result RpcRequest RpcFault) (done : List Deed) → P done → P (stored conv request done)
stored_talks P talks (Some conv) (Ok request) done h = talks.talk conv (calls.Stored request) done h
stored_talks P talks (Some conv) (Err fault) done h = h
stored_talks P talks None (Ok request) done h = h
stored_talks P talks None (Err fault) done h = h

pub replying_all : (P : List Deed → Type 0) → OfAll P → (kind : Option PromptKind) (answer : Option Answer) (done : List Deed) → P done → P (replying kind answer done)
replying_all P all (Some kind) (Some answer) done h =
    let replied : List Deed = OfPrompts kind (side.Replied answer.tag) ∷ done in
    resumed_all P all (asker_of answer.tag (prompts_of done kind)) (said_by kind answer.agrees) replied (all.talks.asked kind (side.Replied answer.tag) done h)
replying_all P all (Some kind) None done h = h
replying_all P all None (Some answer) done h = h
replying_all P all None None done h = h

-- ---- deeds of a request of a connection

pub record IsOwn (conn : ℕ) (P : List Deed → Type 0) : Type 0 where
  pub fids : (deed : FidDeed) (done : List Deed) → P done → P (OfFids conn deed ∷ done)
  pub keys : (deed : KeyDeed) (done : List Deed) → P done → P (OfKeys conn deed ∷ done)
  pub entered : (done : List Deed) → P done → P (OfConnection conn Entered ∷ done)
  pub all : OfAll P

walking_own : (conn : ℕ) (P : List Deed → Type 0) → IsOwn conn P → (newfid : ℕ) (end : Option Node) (done : List Deed) → P done → P (walking conn newfid end done)
walking_own conn P own newfid None done h = h
walking_own conn P own newfid (Some node) done h = own.fids (Walked newfid node) done h

listing_own : (conn : ℕ) (P : List Deed → Type 0) → IsOwn conn P → (fid : ℕ) (first : Bool) (done : List Deed) → P done → P (cond first (OfFids conn (Listed fid) ∷ done) done)
listing_own conn P own fid true done h = own.fids (Listed fid) done h
listing_own conn P own fid false done h = h

reading_own : (conn : ℕ) (P : List Deed → Type 0) → IsOwn conn P → (fid offset count : ℕ) (node : Node) (done : List Deed) → P done → P (reading done conn fid offset count node)
reading_own conn P own fid offset count n.Root done h = own.fids _ done h
reading_own conn P own fid offset count n.Factotum done h = own.fids _ done h
reading_own conn P own fid offset count n.Ctl done h = listing_own conn P own fid (eqb offset 0) done h
reading_own conn P own fid offset count n.Rpc done h = h
reading_own conn P own fid offset count n.Confirm done h = h
reading_own conn P own fid offset count n.Needkey done h = h
reading_own conn P own fid offset count n.Proto done h = h
reading_own conn P own fid offset count n.Log done h = h

-- where one of two lists of deeds is meant
either : (P : List Deed → Type 0) (b : Bool) (done after : List Deed) → P done → P after → P (cond b done after)
either P true done after h now = h
either P false done after h now = now

file_own : (call : Call) (P : List Deed → Type 0) → IsOwn call.conn P → (fid offset count : ℕ) (node : Node) (done : List Deed) → P done → P (reading_file done call fid offset count node)
file_own call P own fid offset count node done h =
    let what : Found = found count (lines_in done node) in
    either P (is_rpc node) (reading_talk call fid count (conv_of done call.conn fid) done) (cond (is_line_file node) (reading_line call fid count node what done) (reading done call.conn fid offset count node)) (talk_all P own.all call fid count (conv_of done call.conn fid) done h)
    (either P (is_line_file node) (reading_line call fid count node what done) (reading done call.conn fid offset count node) (line_all P own.all call fid count node what done h) (reading_own call.conn P own fid offset count node done h))

pub lines_own : (conn : ℕ) (P : List Deed → Type 0) → ((deed : KeyDeed) (done : List Deed) → P done → P (OfKeys conn deed ∷ done)) → (said : List CtlLine) (done : List Deed) → P done → P (lines_done conn said done)
lines_own conn P keys [] done h = h
lines_own conn P keys (said ∷ more) done h = lines_own conn P keys more (OfKeys conn (line_deed said) ∷ done) (keys (line_deed said) done h)

writing_own : (call : Call) (P : List Deed → Type 0) → IsOwn call.conn P → (fid : ℕ) (content : List ℕ) (node : Node) (done : List Deed) → P done → P (writing done call fid content node)
writing_own call P own fid content node done h =
    let lines : List CtlLine = carried_out (keys_of done) (lines_of content) in
    either P (is_rpc node) (stored (conv_of done call.conn fid) (rpc.request_of content) done) (cond (is_some (kind_at node)) (replying (kind_at node) (prompt.reply_of content) done) (lines_done call.conn lines done)) (stored_talks P own.all.talks (conv_of done call.conn fid) (rpc.request_of content) done h)
    (either P (is_some (kind_at node)) (replying (kind_at node) (prompt.reply_of content) done) (lines_done call.conn lines done) (replying_all P own.all (kind_at node) (prompt.reply_of content) done h) (lines_own call.conn P own.keys lines done h))

after_own : (call : Call) (P : List Deed → Type 0) → IsOwn call.conn P → (done : List Deed) (body : TBody) → P done → P (after done call body)
unfolding after
after_own call P own done (t.Version msize version) h = ended_all P own.all (OfFids call.conn (Versioned (agreed msize version))) done (own.fids (Versioned (agreed msize version))) h
after_own call P own done (t.Auth afid uname aname) h = h
after_own call P own done (t.Attach fid afid uname aname) h = own.fids _ done h
after_own call P own done (t.Flush oldtag) h = own.all.replies call.conn _ done h
after_own call P own done (t.Walk fid newfid wname) h = walking_own call.conn P own newfid (lead_to (node_of (fid_of done call.conn fid)) wname) done h
after_own call P own done (t.Open fid mode) h = own.fids _ done h
after_own call P own done (t.Create fid name perm mode) h = h
after_own call P own done (t.Read fid offset count) h = file_own call P own fid offset (effective count (msize_of done call.conn)) (node_of (fid_of done call.conn fid)) done h
after_own call P own done (t.Write fid offset content) h = writing_own call P own fid content (node_of (fid_of done call.conn fid)) done h
after_own call P own done (t.Clunk fid) h = ended_all P own.all (OfFids call.conn (Clunked fid)) done (own.fids (Clunked fid)) h
after_own call P own done (t.Remove fid) h = ended_all P own.all (OfFids call.conn (Clunked fid)) done (own.fids (Clunked fid)) h
after_own call P own done (t.Stat fid) h = h
after_own call P own done (t.Wstat fid stat) h = h

granted_own : (call : Call) (P : List Deed → Type 0) → IsOwn call.conn P → (done : List Deed) (g : Result TBody (List ℕ)) → P done → P (after_granted done call g)
granted_own call P own done (Err text) h = h
granted_own call P own done (Ok body) h = after_own call P own done body h

frame_own : (call : Call) (P : List Deed → Type 0) → IsOwn call.conn P → (done : List Deed) (frame : List ℕ) → P done → P (after_frame done call frame)
unfolding after_frame
frame_own call P own done frame h = granted_own call P own done (granted done call frame) h

replied_own : (call : Call) (P : List Deed → Type 0) → IsOwn call.conn P → (body : Option RBody) (done : List Deed) → P done → P (replied call body done)
replied_own call P own None done h = h
replied_own call P own (Some body) done h = own.all.replies call.conn (Answered call.tag body) done h

pub answered_own : (call : Call) (P : List Deed → Type 0) → IsOwn call.conn P → (done : List Deed) (frame : List ℕ) → P done → P (answered done call frame)
answered_own call P own done frame h = replied_own call P own (body_to done call frame) (after_frame done call frame) (frame_own call P own done frame h)

pub entered_by : (conn : ℕ) (P : List Deed → Type 0) → ((done : List Deed) → P done → P (OfConnection conn Entered ∷ done)) → (done : List Deed) → P done → P (entered conn done)
entered_by conn P enters done h = either P (was_opened done conn) done (OfConnection conn Entered ∷ done) h (enters done h)
