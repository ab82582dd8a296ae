-- Little comes of what a network does to an agent of which all was taken.
use Rattle.std.proofs.Common.{◌≡◌, ℕ, ◌+◌, ◌≤◌, List, [], ◌∷◌, length, Bool, true, false, cond, eqb, codes, Option, Some, None, refl, sym, subst, arith}
use Rattle.std.specs.Prelude.{is_some}
use Rattle.nine.specs.declared.message.TMsg.{TMsg}
use Rattle.nine.specs.declared.message.TBody.TheVariants as t
use Rattle.nine.specs.Messages.{t_frame}
use Rattle.file_tree.specs.declared.tree.Node.{Node}
use Rattle.file_tree.specs.declared.tree.Node.TheVariants.{Root, Factotum, Ctl}
use Rattle.file_tree.specs.Tree.{lead_to}
use Rattle.file_tree.specs.Directories.{dir_end}
use Rattle.file_tree.specs.Calls.{node_of}
use Rattle.key_lists.specs.CtlLines.{carried_out, lines_of}
use Rattle.talks.specs.Requests as rpc
use Rattle.side_files.specs.declared.line.PromptKind.{PromptKind}
use Rattle.side_files.specs.Lines.{found}
use Rattle.side_files.specs.Replies as prompt
use Rattle.talks.specs.Calls as calls
use Rattle.talks.specs.Standings.{Phase, Kept}
use Rattle.agent_history.specs.declared.event.Event.TheVariants.{Request, NoAnswer}
use Rattle.agent_history.specs.declared.event.Event.TheVariants as events
use Rattle.agent_history.specs.Deeds.{Deed, OfFids, Attached, Browsed, Clunked, Listed, Opened, Walked, fid_of, keys_of, msize_of}
use Rattle.agent_history.specs.Replies.{swept}
use Rattle.agent_history.specs.SideFiles.{is_line_file, kind_at, lines_in}
use Rattle.agent_history.specs.Conversations.{asker, conv_of, ended_by, resumed, speakers, standing_of}
use Rattle.agent_history.specs.Requests.{Call, after, call_of, carried, effective, is_rpc, lines_done, reading, reading_answer, reading_line, reading_talk, replying, walking}
use Rattle.agent_history.specs.Histories.{History, deeds}
use Rattle.agent_laws.proofs.ConversationLaws.{few_speak}
use Rattle.agent_laws.proofs.GrowLaws.{resumed_any}
use Rattle.world_history.specs.Driving.{attaches, clunks, left_to_hand, no_word, opens, reads, walks, writes}
use Rattle.driven_agents.specs.Quiet.{NamesNoLines}
use Rattle.driven_agents.proofs.FrameKinds.{attach_so, clunk_so, frame_read, open_so, read_so, walk_so, write_so}
use Rattle.driven_agents.proofs.QuietLaws.{fid_plain, no_kind}
use Rattle.driven_agents.proofs.WriteLaws.{quiet_deeds}
use Rattle.driven_agents.specs.Idle.{Runs}
use Rattle.driven_agents.proofs.ClunkLaws.{clunk_is, gone_by, withdrawn_keeps}
use Rattle.driven_agents.proofs.LeftLaws.{absence_deeds, answer_deeds}
use Rattle.world_promises.proofs.HandCounts.{AtMost, carried_adds, fid_adds, lines_add, more_room, resumed_adds, stored_adds, swept_adds, took_adds}
use Rattle.world_promises.proofs.ShortLaws.{IsLittle}
use Rattle.world_promises.proofs.WaitCounts.{resumed_few}
use Rattle.world_promises.proofs.EventCounts.{IsTaken, IsThere, Left, at_most, frame_left, met_there, request_little, swept_there}

-- ---- writes

no_kind_left : (n : ℕ) (o : Option PromptKind) (one other : List Deed) → o ≡ None → AtMost n other → AtMost n (cond (is_some o) one other)
no_kind_left n None one other none a = a
no_kind_left n (Some kind) one other none a = absurd cc

either_left : (n : ℕ) (b : Bool) (one other : List Deed) → AtMost n one → AtMost n other → AtMost n (cond b one other)
either_left n true one other p q = p
either_left n false one other p q = q

write_left : (done : List Deed) (call : Call) (fid offset : ℕ) (content : List ℕ) → AtMost 0 done → AtMost 1 (after done call (t.Write fid offset content))
unfolding after
write_left done call fid offset content a =
    let node = node_of (fid_of done call.conn fid) in
    let lines = lines_done call.conn (carried_out (keys_of done) (lines_of content)) done in
    either_left 1 (is_rpc node) _ _ (stored_adds 0 (conv_of done call.conn fid) (rpc.request_of content) done a)
    (no_kind_left 1 (kind_at node) (replying (kind_at node) (prompt.reply_of content) done) lines (no_kind node (fid_plain done call.conn fid a.names)) (more_room 0 1 lines (omega arith) (lines_add 0 call.conn (carried_out (keys_of done) (lines_of content)) done a)))

pub write_little : (fid : ℕ) (bytes : List ℕ) (h : History) → IsTaken h → NamesNoLines (deeds h) → Runs (writes fid bytes ∷ h) → IsLittle (deeds (writes fid bytes ∷ h))
write_little fid bytes h k named runs =
    let asked : TMsg = record { tag = 0; body = t.Write fid 0 bytes } in
    let call = call_of 0 (t_frame asked) no_word in
    request_little (t_frame asked) no_word h k (frame_left asked no_word (deeds h) (omega (arith, k.left)) (λ m is. write_so (λ body. Left (after (deeds h) call body)) (λ f o c. omega (arith, (write_left (deeds h) call f o c (at_most h k named)).few)) (t_frame asked) m.body (frame_read asked m is))) runs

-- ---- reads

answer_left : (n : ℕ) (call : Call) (conv fid count : ℕ) (phase : Phase) (done : List Deed) → AtMost n done → AtMost (n + 1) (reading_answer call conv fid count phase done)
answer_left n call conv fid count (Kept answer) done a = took_adds n conv count answer done a
answer_left n call conv fid count phase done a = record { names = a.names; few = omega (arith, a.few) }

talk_left : (n : ℕ) (call : Call) (fid count : ℕ) (o : Option ℕ) (done : List Deed) → AtMost n done → AtMost (n + 6) (reading_talk call fid count o done)
talk_left n call fid count None done a = more_room n (n + 6) done (omega arith) a
talk_left n call fid count (Some conv) done a =
    let d = carried conv call.word done in
    more_room (n + 5 + 1) (n + 6) (reading_answer call conv fid count (standing_of d conv).phase d) (omega arith)
    (answer_left (n + 5) call conv fid count (standing_of d conv).phase d (carried_adds n conv call.word (standing_of done conv).phase done a))

listing_left : (b : Bool) (conn fid : ℕ) (done : List Deed) → length (speakers done) ≤ 1024 → left_to_hand done ≤ 0 → left_to_hand (cond b (OfFids conn (Listed fid) ∷ done) done) ≤ 1024
listing_left true conn fid done few left = fid_adds 0 conn (Listed fid) done few left
listing_left false conn fid done few left = omega arith

other_left : (conn fid offset count : ℕ) (node : Node) (done : List Deed) → length (speakers done) ≤ 1024 → left_to_hand done ≤ 0 → left_to_hand (reading done conn fid offset count node) ≤ 1024
other_left conn fid offset count Root done few left = fid_adds 0 conn (Browsed fid (dir_end Root offset count)) done few left
other_left conn fid offset count Factotum done few left = fid_adds 0 conn (Browsed fid (dir_end Factotum offset count)) done few left
other_left conn fid offset count Ctl done few left = listing_left (eqb offset 0) conn fid done few left
other_left conn fid offset count node done few left = omega arith

by_file : (rpc line : Bool) (one two three : List Deed) → line ≡ false → Left one → Left three → Left (cond rpc one (cond line two three))
by_file true line one two three off p q = p
by_file false true one two three off p q = absurd cc
by_file false false one two three off p q = q

read_left : (done : List Deed) (call : Call) (fid offset count : ℕ) → length (speakers done) ≤ 1024 → AtMost 0 done → Left (after done call (t.Read fid offset count))
unfolding after
read_left done call fid offset count few a =
    let node = node_of (fid_of done call.conn fid) in
    let most = effective count (msize_of done call.conn) in
    let found_file = reading_line call fid most node (found most (lines_in done node)) done in
    by_file (is_rpc node) (is_line_file node) (reading_talk call fid most (conv_of done call.conn fid) done) found_file (reading done call.conn fid offset most node) (fid_plain done call.conn fid a.names)
    (omega (arith, (talk_left 0 call fid most (conv_of done call.conn fid) done a).few))
    (omega (arith, other_left call.conn fid offset most node done few a.few))

pub read_little : (fid : ℕ) (word : List ℕ) (h : History) → IsTaken h → NamesNoLines (deeds h) → Runs (reads fid word ∷ h) → IsLittle (deeds (reads fid word ∷ h))
read_little fid word h k named runs =
    let asked : TMsg = record { tag = fid; body = t.Read fid 0 8192 } in
    let call = call_of 0 (t_frame asked) word in
    request_little (t_frame asked) word h k (frame_left asked word (deeds h) (omega (arith, k.left)) (λ m is. read_so (λ body. Left (after (deeds h) call body)) (λ f o c. read_left (deeds h) call f o c (few_speak h) (at_most h k named)) (t_frame asked) m.body (frame_read asked m is))) runs

-- ---- fids

walking_left : (conn newfid : ℕ) (o : Option Node) (done : List Deed) → length (speakers done) ≤ 1024 → left_to_hand done ≤ 0 → Left (walking conn newfid o done)
walking_left conn newfid None done few left = omega arith
walking_left conn newfid (Some node) done few left = omega (arith, fid_adds 0 conn (Walked newfid node) done few left)

walk_left : (done : List Deed) (call : Call) (fid newfid : ℕ) (names : List (List ℕ)) → length (speakers done) ≤ 1024 → left_to_hand done ≤ 0 → Left (after done call (t.Walk fid newfid names))
unfolding after
walk_left done call fid newfid names few left = walking_left call.conn newfid (lead_to (node_of (fid_of done call.conn fid)) names) done few left

pub walk_little : (fid : ℕ) (file : List ℕ) (h : History) → IsTaken h → Runs (walks fid file ∷ h) → IsLittle (deeds (walks fid file ∷ h))
walk_little fid file h k runs =
    let asked : TMsg = record { tag = 0; body = t.Walk 0 fid (codes "factotum" ∷ file ∷ []) } in
    let call = call_of 0 (t_frame asked) no_word in
    request_little (t_frame asked) no_word h k (frame_left asked no_word (deeds h) (omega (arith, k.left)) (λ m is. walk_so (λ body. Left (after (deeds h) call body)) (λ f g names. walk_left (deeds h) call f g names (few_speak h) k.left) (t_frame asked) m.body (frame_read asked m is))) runs

open_left : (done : List Deed) (call : Call) (fid mode : ℕ) → length (speakers done) ≤ 1024 → left_to_hand done ≤ 0 → Left (after done call (t.Open fid mode))
unfolding after
open_left done call fid mode few left = omega (arith, fid_adds 0 call.conn (Opened fid mode) done few left)

pub open_little : (fid : ℕ) (h : History) → IsTaken h → Runs (opens fid ∷ h) → IsLittle (deeds (opens fid ∷ h))
open_little fid h k runs =
    let asked : TMsg = record { tag = 0; body = t.Open fid 2 } in
    let call = call_of 0 (t_frame asked) no_word in
    request_little (t_frame asked) no_word h k (frame_left asked no_word (deeds h) (omega (arith, k.left)) (λ m is. open_so (λ body. Left (after (deeds h) call body)) (λ f mode. open_left (deeds h) call f mode (few_speak h) k.left) (t_frame asked) m.body (frame_read asked m is))) runs

attach_left : (done : List Deed) (call : Call) (fid afid : ℕ) (uname aname : List ℕ) → length (speakers done) ≤ 1024 → left_to_hand done ≤ 0 → Left (after done call (t.Attach fid afid uname aname))
unfolding after
attach_left done call fid afid uname aname few left = omega (arith, fid_adds 0 call.conn (Attached fid) done few left)

pub attach_little : (h : History) → IsTaken h → Runs (attaches ∷ h) → IsLittle (deeds (attaches ∷ h))
attach_little h k runs =
    let asked : TMsg = record { tag = 0; body = t.Attach 0 4294967295 (codes "world") [] } in
    let call = call_of 0 (t_frame asked) no_word in
    request_little (t_frame asked) no_word h k (frame_left asked no_word (deeds h) (omega (arith, k.left)) (λ m is. attach_so (λ body. Left (after (deeds h) call body)) (λ f g u a. attach_left (deeds h) call f g u a (few_speak h) k.left) (t_frame asked) m.body (frame_read asked m is))) runs

-- one that is given up
record Gone (done : List Deed) : Type 0 where
  pub left : left_to_hand done ≤ 0
  pub few : length (speakers done) ≤ 1024

clunk_left : (h : History) (call : Call) (fid : ℕ) → call.conn ≡ 0 → NamesNoLines (deeds h) → left_to_hand (deeds h) ≤ 0 → Left (after (deeds h) call (t.Clunk fid))
clunk_left h call fid on named left =
    let gone = withdrawn_keeps Gone (λ kind conv d g. record { left = g.left; few = g.few }) (ended_by (OfFids 0 (Clunked fid)) (deeds h)) (deeds h) (record { left = left; few = few_speak h }) in
    subst Left (sym (clunk_is call fid (deeds h) on (quiet_deeds h named).asked)) (omega (arith, fid_adds 0 0 (Clunked fid) (gone_by fid (deeds h)) gone.few gone.left))

pub clunk_little : (fid : ℕ) (h : History) → IsTaken h → NamesNoLines (deeds h) → Runs (clunks fid ∷ h) → IsLittle (deeds (clunks fid ∷ h))
clunk_little fid h k named runs =
    let asked : TMsg = record { tag = 0; body = t.Clunk fid } in
    let call = call_of 0 (t_frame asked) no_word in
    request_little (t_frame asked) no_word h k (frame_left asked no_word (deeds h) (omega (arith, k.left)) (λ m is. clunk_so (λ body. Left (after (deeds h) call body)) (λ f. clunk_left h call f refl named k.left) (t_frame asked) m.body (frame_read asked m is))) runs

-- ---- what the authentication server says

resumed_little : (o : Option ℕ) (call : calls.Call) (h : History) → IsTaken h → NamesNoLines (deeds h) → IsLittle (swept (resumed o call (deeds h)))
resumed_little o call h k named =
    let d = resumed o call (deeds h) in
    record {
      entered = (swept_there d (resumed_any IsThere met_there o call (deeds h) (k.entered, k.there))).0;
      replies = resumed_few o call h k.taken;
      left = omega (arith, (swept_adds 6 d (resumed_adds 0 o call (deeds h) (at_most h k named))).few);
    }

pub answer_little : (call : ℕ) (bytes : List ℕ) (h : History) → IsTaken h → NamesNoLines (deeds h) → Runs (events.Answer call bytes ∷ h) → IsLittle (deeds (events.Answer call bytes ∷ h))
answer_little call bytes h k named runs = subst IsLittle (sym (answer_deeds call bytes h runs)) (resumed_little (asker (deeds h) call) (calls.Heard bytes) h k named)

pub absence_little : (call : ℕ) (h : History) → IsTaken h → NamesNoLines (deeds h) → Runs (NoAnswer call ∷ h) → IsLittle (deeds (NoAnswer call ∷ h))
absence_little call h k named runs = subst IsLittle (sym (absence_deeds call h runs)) (resumed_little (asker (deeds h) call) calls.Unheard h k named)
