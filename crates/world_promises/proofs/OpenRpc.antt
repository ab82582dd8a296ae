-- A fid that has a conversation open names rpc; what a read and a write of it that are granted pass, and what they do.
use Rattle.std.proofs.Common.{◌≡◌, ℕ, List, ◌∷◌, Bool, true, false, cond, eqb, ◌&&◌, not, Option, Some, None, Ok, refl, sym, ap, ◌∙◌}
use Rattle.std.specs.Prelude.{is_some}
use Rattle.std.proofs.lemmas.Bool.{and_parts}
use Rattle.nine.specs.declared.message.TBody.TheVariants as t
use Rattle.file_tree.specs.declared.tree.Node.{Node}
use Rattle.file_tree.specs.declared.tree.Node.TheVariants.{Root, Factotum, Rpc, Ctl, Confirm, Needkey, Proto, Log}
use Rattle.file_tree.specs.declared.tree.FidState.{FidState}
use Rattle.file_tree.specs.Tree.{file}
use Rattle.file_tree.specs.Calls.{is_open, mode_of, node_of}
use Rattle.talks.specs.Requests.{RpcRequest}
use Rattle.talks.specs.Requests as rpc
use Rattle.talks.specs.Calls as calls
use Rattle.talks.specs.Standings.{Phase, Resting, Waiting, Seeking, OnConfirm, OnNeedkey, OnServer, Kept}
use Rattle.agent_history.specs.Deeds.{Deed, OfTalk, fid_of, msize_of, names}
use Rattle.agent_history.specs.Replies.{waits_for, waits_under}
use Rattle.agent_history.specs.Conversations.{conv_of, met, standing_of}
use Rattle.agent_history.specs.Requests.{Call, after, answer_read, carrying_out, effective, has_answer, is_resting, is_rpc, is_too_long, lets_write, phase_in, phase_of, read_reply, reading_answer, reading_file, reading_talk, refusal, reply_of, stored, talk_read}
use Rattle.agent_history.specs.Histories.{History, deeds}
use Rattle.agent_laws.proofs.ConversationLaws.{openers_speak}
use Rattle.agent_laws.proofs.MetLaws.{choice_none, or_none}
use Rattle.agent_laws.proofs.GrowLaws.{not_false, read_waits, where_true}

-- ---- rpc

rpc_path : (node : Node) → eqb (file node).path (file Rpc).path ≡ true → is_rpc node ≡ true
rpc_path Rpc e = refl
rpc_path Root e = absurd cc
rpc_path Factotum e = absurd cc
rpc_path Ctl e = absurd cc
rpc_path Confirm e = absurd cc
rpc_path Needkey e = absurd cc
rpc_path Proto e = absurd cc
rpc_path Log e = absurd cc

names_rpc : (o : Option FidState) → names Rpc o ≡ true → is_rpc (node_of o) ≡ true
names_rpc None e = absurd cc
names_rpc (Some state) e = rpc_path state.node e

pub opens_rpc : (h : History) (fid number : ℕ) → conv_of (deeds h) 0 fid ≡ Some number → is_rpc (node_of (fid_of (deeds h) 0 fid)) ≡ true
opens_rpc h fid number e =
    let o = fid_of (deeds h) 0 fid in
    names_rpc o (and_parts (names Rpc o) (is_open o) (sym (openers_speak h 0 fid) ∙ ap is_some e)).0

pub phase_there : (done : List Deed) (fid number : ℕ) → conv_of done 0 fid ≡ Some number → phase_of done 0 fid ≡ (standing_of done number).phase
phase_there done fid number e = ap (phase_in done) e

-- ---- a write

where_is : {X : Type 0} (b : Bool) (one other : X) → b ≡ true → cond b one other ≡ one
where_is true one other e = refl
where_is false one other e = absurd cc

rests : (phase : Phase) → is_resting phase ≡ true → phase ≡ Resting
rests Resting e = refl
rests (Waiting request) e = absurd cc
rests Seeking e = absurd cc
rests (OnConfirm serial) e = absurd cc
rests OnNeedkey e = absurd cc
rests OnServer e = absurd cc
rests (Kept answer) e = absurd cc

-- the conversation rests, and the request isn't too long
pub write_passes : (done : List Deed) (call : Call) (fid : ℕ) (content : List ℕ) → refusal done call (t.Write fid 0 content) ≡ None → is_rpc (node_of (fid_of done call.conn fid)) ≡ true → (phase_of done call.conn fid ≡ Resting) × (is_too_long (rpc.request_of content) ≡ false)
unfolding refusal
write_passes done call fid content e is =
    let o = fid_of done call.conn fid in
    let one = choice_none (not (is_open o)) _ _ (or_none _ _ e).1 in
    let two = choice_none (not (lets_write (mode_of o))) _ _ one.1 in
    let three = choice_none (is_rpc (node_of o) && not (is_resting (phase_of done call.conn fid))) _ _ two.1 in
    let four = choice_none (is_rpc (node_of o) && is_too_long (rpc.request_of content)) _ _ three.1 in (
      rests (phase_of done call.conn fid) (not_false (is_resting (phase_of done call.conn fid)) (where_true (is_rpc (node_of o)) (not (is_resting (phase_of done call.conn fid))) is three.0)),
      where_true (is_rpc (node_of o)) (is_too_long (rpc.request_of content)) is four.0,
    )

-- it is kept
pub write_does : (done : List Deed) (call : Call) (fid number : ℕ) (content : List ℕ) (request : RpcRequest) → is_rpc (node_of (fid_of done call.conn fid)) ≡ true → conv_of done call.conn fid ≡ Some number → rpc.request_of content ≡ Ok request → after done call (t.Write fid 0 content) ≡ OfTalk number (calls.Stored request) ∷ done
unfolding after
write_does done call fid number content request is there asked =
    where_is (is_rpc (node_of (fid_of done call.conn fid))) (stored (conv_of done call.conn fid) (rpc.request_of content) done) _ is
    ∙ ap (λ o. stored o (rpc.request_of content) done) there
    ∙ ap (λ x. stored (Some number) x done) asked

-- ---- a read

-- no other read of the fid waits
pub read_passes : (done : List Deed) (call : Call) (fid : ℕ) (request : RpcRequest) → refusal done call (t.Read fid 0 8192) ≡ None → waits_under done call.conn call.tag ≡ false → is_rpc (node_of (fid_of done call.conn fid)) ≡ true → phase_of done call.conn fid ≡ Waiting request → waits_for done call.conn fid ≡ false
read_passes done call fid request e unused is waits = (read_waits done call fid 0 8192 e unused is (ap (λ p. has_answer p) waits)).free is

-- the request is carried out, and its answer read
abbrev pub carried_on : ℕ → List ℕ → List Deed → List Deed
carried_on number word done = met number (calls.CarriedOut word) done

pub read_does : (done : List Deed) (call : Call) (fid number : ℕ) (request : RpcRequest) → is_rpc (node_of (fid_of done call.conn fid)) ≡ true → msize_of done call.conn ≡ Some 8216 → conv_of done call.conn fid ≡ Some number → (standing_of done number).phase ≡ Waiting request
    → after done call (t.Read fid 0 8192) ≡ reading_answer call number fid 8192 (standing_of (carried_on number call.word done) number).phase (carried_on number call.word done)
unfolding after
read_does done call fid number request is agreed there waits =
    ap (λ m. reading_file done call fid 0 (effective 8192 m) (node_of (fid_of done call.conn fid))) agreed
    ∙ where_is (is_rpc (node_of (fid_of done call.conn fid))) (reading_talk call fid 8192 (conv_of done call.conn fid) done) _ is
    ∙ ap (λ o. reading_talk call fid 8192 o done) there
    ∙ ap (λ p. reading_answer call number fid 8192 (standing_of (carrying_out number call.word p done) number).phase (carrying_out number call.word p done)) waits

pub read_replies : (done : List Deed) (call : Call) (fid number : ℕ) (request : RpcRequest) → is_rpc (node_of (fid_of done call.conn fid)) ≡ true → msize_of done call.conn ≡ Some 8216 → conv_of done call.conn fid ≡ Some number → (standing_of done number).phase ≡ Waiting request
    → reply_of done call (t.Read fid 0 8192) ≡ answer_read 8192 (standing_of (carried_on number call.word done) number).phase
unfolding reply_of
read_replies done call fid number request is agreed there waits =
    ap (λ m. read_reply done call fid 0 (effective 8192 m) (node_of (fid_of done call.conn fid))) agreed
    ∙ where_is (is_rpc (node_of (fid_of done call.conn fid))) (talk_read call.word 8192 (conv_of done call.conn fid) done) _ is
    ∙ ap (λ o. talk_read call.word 8192 o done) there
    ∙ ap (λ p. answer_read 8192 (standing_of (carrying_out number call.word p done) number).phase) waits
