-- What isn't refused of an agent of which no read waits: the requests that a network makes of its fid 2.
use Rattle.std.proofs.Common.{◌≡◌, ℕ, ◌<◌, ◌^◌, List, [], Bool, false, cond, ltb, codes, length, Option, Some, None, refl, ap, ◌∙◌}
use Rattle.std.specs.Prelude.{Result, Ok, Err}
use Rattle.nine.specs.declared.message.TMsg.{TMsg}
use Rattle.nine.specs.declared.message.TBody.{TBody}
use Rattle.nine.specs.declared.message.TBody.TheVariants as t
use Rattle.nine.specs.declared.message.RBody.TheVariants as r
use Rattle.nine.specs.Messages.{t_fits, t_frame}
use Rattle.nine.specs.Decoding.{request_of}
use Rattle.file_tree.specs.declared.tree.Node.TheVariants.{Rpc}
use Rattle.file_tree.specs.declared.tree.FidState.{FidState}
use Rattle.file_tree.specs.Tree.{step}
use Rattle.file_tree.specs.Calls.{at_rest, attached, fid_fault, open_fault, walk_fault}
use Rattle.talks.specs.Requests.{RpcRequest}
use Rattle.talks.specs.Requests as rpc
use Rattle.talks.specs.Standings.{Resting, Waiting}
use Rattle.agent_history.specs.Deeds.{Deed, fid_of, held_by, msize_of}
use Rattle.agent_history.specs.Replies.{waits}
use Rattle.agent_history.specs.Conversations.{speakers}
use Rattle.agent_history.specs.Requests.{Call, comes_first, granted, granted_body, is_over, lacks_version, phase_of, refusal, repeats_tag, reply_of}
use Rattle.driven_agents.proofs.ExactLaws.{read_again}
use Rattle.driven_agents.proofs.WalkLaws.{way_to}

-- ---- a request that no test refuses

granted_is : (done : List Deed) (call : Call) (asked : TMsg) → asked.tag < 2 ^ 16 → t_fits asked.body → is_over (msize_of done call.conn) (t_frame asked) ≡ false → granted_body done call asked.body ≡ Ok asked.body → granted done call (t_frame asked) ≡ Ok asked.body
unfolding granted
granted_is done call asked tag fits within is =
    ap (λ b. cond b (Err (codes "message over msize")) (elim (request_of (t_frame asked)) as (λ x. Result TBody (List ℕ)) [ None ↦ Err (codes "bad message") | Some m ↦ granted_body done call m.body ])) within
    ∙ (ap (λ (o : Option TMsg). elim o as (λ x. Result TBody (List ℕ)) [ None ↦ Err (codes "bad message") | Some m ↦ granted_body done call m.body ]) (read_again asked tag fits) ∙ is)

by_tests : (a b : Bool) (x y : List ℕ) (o : Option (List ℕ)) (body : TBody) → a ≡ false → b ≡ false → o ≡ None → cond a (Err x) (cond b (Err y) (elim o as (λ o. Result TBody (List ℕ)) [ Some text ↦ Err text | None ↦ Ok body ])) ≡ Ok body
by_tests a b x y o body version tag none = rw (version, tag, none) refl

-- a version is agreed, the frame is short enough, and no read waits
pub granted_plain : (done : List Deed) (call : Call) (asked : TMsg) → asked.tag < 2 ^ 16 → t_fits asked.body → msize_of done call.conn ≡ Some 8216 → ltb 8216 (length (t_frame asked)) ≡ false → comes_first asked.body ≡ false → waits done call.conn ≡ [] → refusal done call asked.body ≡ None → granted done call (t_frame asked) ≡ Ok asked.body
granted_plain done call asked tag fits agreed short first free none =
    granted_is done call asked tag fits (ap (λ o. is_over o (t_frame asked)) agreed ∙ short)
    (by_tests (lacks_version done call asked.body) (repeats_tag done call asked.body) _ _ (refusal done call asked.body) asked.body
    (rw (first, agreed) refl) (rw (first, free) refl) none)

-- ---- the tests

-- a fid that has rpc open
abbrev pub rpc_open : Option FidState
rpc_open = Some (record { node = Rpc; mode = Some 2 })

pub write_none : (done : List Deed) (call : Call) (content : List ℕ) (request : RpcRequest) → fid_of done call.conn 2 ≡ rpc_open → phase_of done call.conn 2 ≡ Resting → rpc.request_of content ≡ Ok request → refusal done call (t.Write 2 0 content) ≡ None
unfolding refusal fid_fault
write_none done call content request own rests asked = rw (own, rests, asked) refl

pub read_none : (done : List Deed) (call : Call) (request : RpcRequest) → fid_of done call.conn 2 ≡ rpc_open → phase_of done call.conn 2 ≡ Waiting request → waits done call.conn ≡ [] → refusal done call (t.Read 2 0 8192) ≡ None
unfolding refusal fid_fault
read_none done call request own rests free = rw (own, rests, free) refl

pub walk_none : (done : List Deed) (call : Call) → fid_of done call.conn 0 ≡ attached → fid_of done call.conn 2 ≡ None → held_by done call.conn ≡ 2 → refusal done call (t.Walk 0 2 (way_to (codes "rpc"))) ≡ None
unfolding refusal walk_fault step
walk_none done call root own held = rw (root, own, held) refl

pub open_none : (done : List Deed) (call : Call) → fid_of done call.conn 2 ≡ Some (at_rest Rpc) → speakers done ≡ [] → refusal done call (t.Open 2 2) ≡ None
unfolding refusal open_fault
open_none done call own none = rw (own, none) refl

pub clunk_none : (done : List Deed) (call : Call) → fid_of done call.conn 2 ≡ rpc_open → refusal done call (t.Clunk 2) ≡ None
unfolding refusal fid_fault
clunk_none done call own = rw own refl

-- ---- what a write is replied

pub write_replies : (done : List Deed) (call : Call) (content : List ℕ) → fid_of done call.conn 2 ≡ rpc_open → reply_of done call (t.Write 2 0 content) ≡ Some (r.Write (length content))
unfolding reply_of
write_replies done call content own = rw own refl
