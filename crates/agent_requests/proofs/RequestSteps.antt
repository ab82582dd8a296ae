-- From what the calls on a table of fids answer to what the history says of a request.
use Rattle.std.proofs.Common.{◌≡◌, ◌≤◌, ℕ, List, [], ◌∷◌, Bool, true, false, ◌&&◌, not, cond, eqb, Option, Some, None, Result, Ok, Err, refl, sym, ap, subst, ◌∙◌, ◌⊎◌, inl, inr, min}
use Rattle.std.specs.Prelude.{is_some, length, nat_lt, option_map, ok_or, codes, OnOk, OnErr}
use Rattle.std.proofs.lemmas.Bool.{le-ltb}
use Rattle.nine.specs.declared.message.TBody.TheVariants as t
use Rattle.nine.specs.declared.message.RBody.{RBody}
use Rattle.nine.specs.declared.message.RBody.TheVariants as r
use Rattle.nine.specs.Messages.{r_frame}
use Rattle.file_tree.specs.declared.tree.Node.{Node}
use Rattle.file_tree.specs.declared.tree.FidState.{FidState}
use Rattle.file_tree.specs.declared.tree.Node.TheVariants.{Root, Factotum, Rpc}
use Rattle.file_tree.specs.declared.tree.Node.TheVariants as n
use Rattle.file_tree.specs.declared.fault.FidFault.{FidFault}
use Rattle.file_tree.specs.declared.fault.FidFault.TheVariants.{BadOffset}
use Rattle.file_tree.specs.Directories.{dir_bytes, dir_end}
use Rattle.file_tree.specs.Tree.{is_exclusive, qid_of}
use Rattle.file_tree.specs.Faults.{answered, fault_text}
use Rattle.file_tree.specs.Calls.{attach_fault, node_of, open_fault, fid_fault, dir_fault}
use Rattle.file_tree.specs.declared.fids.Fid.{Fid}
use Rattle.file_tree.specs.Held.{state_at, next_at}
use Rattle.file_tree.specs.Held as table
use Rattle.key_lists.specs.Lists.{KeyList}
use Rattle.key_lists.specs.Edits.{Add, Delete}
use Rattle.key_lists.specs.CtlLines.{CtlLine, OnKeys, Debug, lines_of, carried_out, lines_fault, after_lines, keys_with, keys_with_all}
use Rattle.agent_history.specs.Deeds.{Deed, OfFids, OfKeys, Versioned, Attached, Opened, Browsed, Clunked, msize_of, fid_of, held_by, next_of, holder_of, keys_of}
use Rattle.agent_history.specs.Conversations.{conv_of, given_up_by, speakers}
use Rattle.agent_history.specs.SideFiles.{kind_at, lines_in}
use Rattle.side_files.specs.declared.line.PromptKind.{PromptKind}
use Rattle.side_files.specs.Lines.{found}
use Rattle.side_files.specs.Replies as prompt
use Rattle.key_ring.specs.Switches.{switches}
use Rattle.agent_requests.specs.Logging.{Logs}
use Rattle.mailboxes.proofs.DeliveryLemmas.{keys_delivers}
use Rattle.agent_history.specs.Requests.{Call, refusal, after, reply_of, agreed, effective, lets_read, line_found, nofid, lets_write, write_reply, written, line_deed, lines_done, is_known, is_rpc, most_msize, most_talks}
use Rattle.talks.specs.Requests as rpc
use Rattle.mailboxes.specs.declared.reply.Reply.{Reply}
use Rattle.mailboxes.specs.declared.mailboxes.Mailboxes.{Mailboxes}
use Rattle.mailboxes.specs.Kept.{reply_bytes}
use Rattle.mailboxes.specs.Deliveries.{Delivers, under}
use Rattle.agent_requests.specs.declared.connection.Connection.{Connection}
use Rattle.agent_requests.specs.declared.holders.Holders.{Holders}
use Rattle.agent_requests.specs.declared.shared.Shared.{Shared}
use Rattle.agent_requests.specs.Sharing.{AreLive, Holds, HoldersLive, Shares}
use Rattle.agent_requests.proofs.FidLemmas.{shares_attached, shares_browsed}
use Rattle.agent_requests.proofs.ShareLemmas.{holds_keys}
use Rattle.agent_requests.specs.declared.refused.Refused.{Refused}
use Rattle.agent_requests.specs.declared.refused.Refused.TheVariants as e
use Rattle.agent_requests.specs.declared.refused.Refusal.TheVariants as f
use Rattle.agent_requests.specs.Connections.{kept_fid, msize_in, Keeps, Says, Told, Served}
use Rattle.agent_requests.specs.LineRequests.{LineServed, LineTold, ReplyServed, ReplyTold, line_refusal, reply_refusal, switching}
use Rattle.agent_requests.specs.RpcRequests.{ReadServed, ReadTold, WriteServed, WriteTold, read_refusal, write_refusal}
use Rattle.agent_requests.proofs.OwnRequests.{line_all, lines_own, replying_all, stored_talks, talk_all}
use Rattle.agent_requests.proofs.KeepLemmas.{keeps_all, keeps_keys}
use Rattle.agent_requests.proofs.SwitchLemmas.{lines_logs}

-- ---- answers

state_kept : (f : Option FidState) (next : ℕ) → option_map (λ (held : Fid). held.state) (kept_fid f next) ≡ f
state_kept None next = refl
state_kept (Some state) next = refl

-- what a fid names, to the table and to the history
pub state_is : (done : List Deed) (conn : ℕ) (c : Connection) (fid : ℕ) → Keeps done conn c → state_at c.fids fid ≡ fid_of done conn fid
state_is done conn c fid k = ap (option_map (λ (held : Fid). held.state)) (k.fids fid) ∙ state_kept (fid_of done conn fid) (next_of done conn fid)

pub answered_ok : {X : Type 0} (o : Option FidFault) (x y : X) → answered o x ≡ Ok y → (o ≡ None) × (x ≡ y)
answered_ok None x y e = (refl, cc)
answered_ok (Some fault) x y e = absurd cc

pub held_ok : {X E : Type 0} (o : Option X) (e : E) (x : X) → ok_or o e ≡ Ok x → o ≡ Some x
held_ok None e x h = absurd cc
held_ok (Some y) e x h = cc

on_ok_at : {X E : Type 0} {P : Type 0} (result : Result X E) (x : X) → result ≡ Ok x → OnOk result P → P
on_ok_at (Ok y) x e p = p
on_ok_at (Err y) x e p = absurd cc

pub on_err : {X E : Type 0} {P : Type 0} (result : Result X E) → P → OnErr result P
on_err (Ok x) p = tt
on_err (Err y) p = p

pub told_served : (o : Option (List ℕ)) (S : Option Reply → Type 0) (reply : Option Reply) → o ≡ None → S reply → Told o S (Ok reply)
told_served None S reply e s = s
told_served (Some text) S reply e s = absurd cc

told_same : (o : Option (List ℕ)) (S T : Option Reply → Type 0) (result : Result (Option Reply) Refused) → ((reply : Option Reply) → result ≡ Ok reply → S reply → T reply) → Told o S result → Told o T result
told_same None S T (Ok reply) f s = f reply refl s
told_same (Some text) S T (Ok reply) f s = absurd s
told_same None S T (Err (e.For why)) f s = absurd s
told_same (Some text) S T (Err (e.For why)) f s = s
told_same None S T (Err e.NoMemory) f s = s
told_same (Some text) S T (Err e.NoMemory) f s = s

-- the same refusal, and what follows of what was served
pub told_maps : (o p : Option (List ℕ)) (S T : Option Reply → Type 0) (result : Result (Option Reply) Refused) → o ≡ p → ((reply : Option Reply) → result ≡ Ok reply → S reply → T reply) → Told o S result → Told p T result
told_maps o p S T result same f s = subst (λ (q : Option (List ℕ)). Told q T result) same (told_same o S T result f s)

-- ---- version

pub version_told : (done : List Deed) (call : Call) (msize : ℕ) (version : List ℕ) (c : Connection) (s : Shared) (reply : Reply) → 256 ≤ msize → Keeps (given_up_by (OfFids call.conn (Versioned (agreed msize version))) done) call.conn c → Shares (given_up_by (OfFids call.conn (Versioned (agreed msize version))) done) s
    → reply_bytes reply ≡ r_frame (under call.tag (r.Version (min msize most_msize) (cond (is_known version) (codes "9P2000") (codes "unknown")))) → Told (refusal done call (t.Version msize version)) (Served done call (t.Version msize version) c s) (Ok (Some reply))
unfolding refusal after reply_of
version_told done call msize version c s reply le k h said = rw le-ltb (record { keeps = k; shares = h; said = said })

-- ---- remove

held_fault : (o : Option FidState) (state : FidState) → o ≡ Some state → fid_fault o ≡ None
unfolding fid_fault
held_fault o state held = rw held refl

pub remove_told : (done : List Deed) (call : Call) (fid : ℕ) (state : FidState) (c : Connection) (s : Shared) (reply : Reply) → fid_of done call.conn fid ≡ Some state → Keeps (given_up_by (OfFids call.conn (Clunked fid)) done) call.conn c → Shares (given_up_by (OfFids call.conn (Clunked fid)) done) s
    → reply_bytes reply ≡ r_frame (under call.tag (r.Error (codes "permission denied"))) → Told (refusal done call (t.Remove fid)) (Served done call (t.Remove fid) c s) (Ok (Some reply))
unfolding refusal after reply_of
remove_told done call fid state c s reply held k h said = rw (held_fault (fid_of done call.conn fid) state held) (record { keeps = k; shares = h; said = said })

-- ---- attach

pub attach_told : (done : List Deed) (call : Call) (fid afid : ℕ) (uname aname : List ℕ) (c : Connection) (s : Shared) (reply : Reply) → afid ≡ nofid → attach_fault (fid_of done call.conn fid) (held_by done call.conn) ≡ None
    → Keeps (OfFids call.conn (Attached fid) ∷ done) call.conn c → Shares done s → reply_bytes reply ≡ r_frame (under call.tag (r.Attach (qid_of Root))) → Told (refusal done call (t.Attach fid afid uname aname)) (Served done call (t.Attach fid afid uname aname) c s) (Ok (Some reply))
unfolding refusal after reply_of
attach_told done call fid afid uname aname c s reply none fault k h said = rw (none, fault) (record { keeps = k; shares = shares_attached done call.conn fid s h; said = said })

-- ---- open

unfaulted : (f : Option FidState) (mode : ℕ) → open_fault f mode ≡ None → is_some f ≡ true
unfolding open_fault
unfaulted None mode e = absurd cc
unfaulted (Some state) mode e = refl

pub open_held : (f : Option FidState) (mode : ℕ) → open_fault f mode ≡ None → is_some f ≡ true
open_held f mode e = unfaulted f mode e

pub open_allowed : (done : List Deed) (call : Call) (fid mode : ℕ) (node : Node) → open_fault (fid_of done call.conn fid) mode ≡ None → node_of (fid_of done call.conn fid) ≡ node
    → (is_exclusive node && is_some (holder_of done node)) ≡ false → (is_rpc node && not (nat_lt (length (speakers done)) most_talks)) ≡ false → refusal done call (t.Open fid mode) ≡ None
unfolding refusal
open_allowed done call fid mode node fault named alone many = rw (fault, named, alone, many) refl

pub open_served : (done : List Deed) (call : Call) (fid mode : ℕ) (node : Node) (c : Connection) (s : Shared) (reply : Reply) → Keeps (OfFids call.conn (Opened fid mode) ∷ done) call.conn c → Shares (OfFids call.conn (Opened fid mode) ∷ done) s
    → node_of (fid_of done call.conn fid) ≡ node → reply_bytes reply ≡ r_frame (under call.tag (r.Open (qid_of node) 0)) → Served done call (t.Open fid mode) c s (Some reply)
unfolding after reply_of
open_served done call fid mode node c s reply k h named said = record { keeps = k; shares = h; said = rw named said }

-- ---- read

offset_refusal : (next offset : ℕ) → cond (is_some (dir_fault next offset)) (Some (codes "bad directory offset")) None ≡ option_map fault_text (dir_fault next offset)
unfolding dir_fault
offset_refusal next offset = here (not (eqb offset 0) && not (eqb offset next))
  where
    here : (b : Bool) → cond (is_some (cond b (Some BadOffset) None)) (Some (codes "bad directory offset")) None ≡ option_map fault_text (cond b (Some BadOffset) None)
    here true = refl
    here false = refl

-- a file that is a directory
abbrev pub IsDirectory : Node → Type 0
IsDirectory node = (node ≡ Root) ⊎ (node ≡ Factotum)

dir_refusal : (done : List Deed) (call : Call) (fid offset count : ℕ) (state : FidState) → fid_of done call.conn fid ≡ Some state → is_some state.mode ≡ true → lets_read state.mode ≡ true → IsDirectory state.node
    → refusal done call (t.Read fid offset count) ≡ option_map fault_text (dir_fault (next_of done call.conn fid) offset)
unfolding refusal fid_fault
dir_refusal done call fid offset count state held opened lets (inl is) = rw (held, opened, lets, is) (offset_refusal (next_of done call.conn fid) offset)
dir_refusal done call fid offset count state held opened lets (inr is) = rw (held, opened, lets, is) (offset_refusal (next_of done call.conn fid) offset)

dir_served : (done : List Deed) (call : Call) (fid offset count : ℕ) (state : FidState) (c : Connection) (s : Shared) (reply : Option Reply) → fid_of done call.conn fid ≡ Some state → IsDirectory state.node
    → Keeps (OfFids call.conn (Browsed fid (dir_end state.node offset (effective count (msize_of done call.conn)))) ∷ done) call.conn c → Shares done s
    → Says call.tag (Some (r.Read (dir_bytes state.node offset (effective count (msize_of done call.conn))))) reply → Served done call (t.Read fid offset count) c s reply
unfolding after reply_of
dir_served done call fid offset count state c s reply held (inl is) k h said = record { keeps = rw (held, is) (rw (← is) k); shares = rw (held, is) (shares_browsed done call.conn fid _ s h); said = rw (held, is) (subst (λ (n : Node). Says call.tag (Some (r.Read (dir_bytes n offset (effective count (msize_of done call.conn))))) reply) is said) }
dir_served done call fid offset count state c s reply held (inr is) k h said = record { keeps = rw (held, is) (rw (← is) k); shares = rw (held, is) (shares_browsed done call.conn fid _ s h); said = rw (held, is) (subst (λ (n : Node). Says call.tag (Some (r.Read (dir_bytes n offset (effective count (msize_of done call.conn))))) reply) is said) }

next_kept : (f : Option FidState) (state : FidState) (next : ℕ) → f ≡ Some state → table.next_of (kept_fid f next) ≡ next
next_kept f state next held = rw held refl

pub dir_told : (done : List Deed) (call : Call) (fid offset count most : ℕ) (state : FidState) (c d : Connection) (s : Shared) (result : Result (Option Reply) Refused) → Keeps done call.conn c → Shares done s
    → fid_of done call.conn fid ≡ Some state → is_some state.mode ≡ true → lets_read state.mode ≡ true → most ≡ effective count (msize_in c.phase) → IsDirectory state.node
    → Told (option_map fault_text (dir_fault (next_at c.fids fid) offset)) (Says call.tag (Some (r.Read (dir_bytes (node_of (state_at c.fids fid)) offset most)))) result
    → OnOk result ((done : List Deed) (conn : ℕ) → Keeps done conn c → Keeps (OfFids conn (Browsed fid (dir_end (node_of (state_at c.fids fid)) offset most)) ∷ done) conn d)
    → Told (refusal done call (t.Read fid offset count)) (Served done call (t.Read fid offset count) d s) result
dir_told done call fid offset count most state c d s result k h held opened lets m is told ok =
    let node : node_of (state_at c.fids fid) ≡ state.node = ap node_of (state_is done call.conn c fid k ∙ held) in
    let size : most ≡ effective count (msize_of done call.conn) = m ∙ ap (effective count) k.msize in
    let next : next_at c.fids fid ≡ next_of done call.conn fid = ap table.next_of (k.fids fid) ∙ next_kept (fid_of done call.conn fid) state (next_of done call.conn fid) held in
    told_maps _ _ _ _ result (ap (λ (n : ℕ). option_map fault_text (dir_fault n offset)) next ∙ sym (dir_refusal done call fid offset count state held opened lets is))
    (λ reply e said. dir_served done call fid offset count state d s reply held is (rw (← node, ← size) (on_ok_at result reply e ok done call.conn k)) h (rw (← node, ← size) said)) told

-- ---- read of rpc

rpc_refusal : (done : List Deed) (call : Call) (fid offset count : ℕ) (state : FidState) → fid_of done call.conn fid ≡ Some state → is_some state.mode ≡ true → lets_read state.mode ≡ true → state.node ≡ Rpc
    → refusal done call (t.Read fid offset count) ≡ read_refusal done call.conn fid
unfolding refusal fid_fault
rpc_refusal done call fid offset count state held opened lets is = rw (held, opened, lets, is) refl

rpc_served : (done : List Deed) (call : Call) (fid offset count : ℕ) (state : FidState) (c : Connection) (s : Shared) (reply : Option Reply) → fid_of done call.conn fid ≡ Some state → state.node ≡ Rpc → Keeps done call.conn c
    → ReadServed done call fid (effective count (msize_of done call.conn)) s reply → Served done call (t.Read fid offset count) c s reply
unfolding after reply_of
rpc_served done call fid offset count state c s reply held is k h = record {
  keeps = rw (held, is) (talk_all (λ now. Keeps now call.conn c) (keeps_all call.conn c) call fid (effective count (msize_of done call.conn)) (conv_of done call.conn fid) done k);
  shares = rw (held, is) h.shares;
  said = rw (held, is) h.said;
}

pub rpc_told : (done : List Deed) (call : Call) (fid offset count most : ℕ) (state : FidState) (c : Connection) (s : Shared) (result : Result (Option Reply) Refused) → Keeps done call.conn c
    → fid_of done call.conn fid ≡ Some state → is_some state.mode ≡ true → lets_read state.mode ≡ true → most ≡ effective count (msize_in c.phase) → state.node ≡ Rpc
    → ReadTold done call fid most s result → Told (refusal done call (t.Read fid offset count)) (Served done call (t.Read fid offset count) c s) result
rpc_told done call fid offset count most state c s result k held opened lets m is told =
    let size : most ≡ effective count (msize_of done call.conn) = m ∙ ap (effective count) k.msize in
    told_maps _ _ _ _ result (sym (rpc_refusal done call fid offset count state held opened lets is))
    (λ reply e served. rpc_served done call fid offset count state c s reply held is k (subst (λ (n : ℕ). ReadServed done call fid n s reply) size served)) told

-- ---- write of rpc

rpc_write_refusal : (done : List Deed) (call : Call) (fid offset : ℕ) (content : List ℕ) (state : FidState) → fid_of done call.conn fid ≡ Some state → is_some state.mode ≡ true → lets_write state.mode ≡ true → state.node ≡ Rpc
    → refusal done call (t.Write fid offset content) ≡ write_refusal done call.conn fid content
unfolding refusal fid_fault
rpc_write_refusal done call fid offset content state held opened lets is = rw (held, opened, lets, is) refl

the_rpc : (node : Node) → is_rpc node ≡ true → node ≡ Rpc
the_rpc Rpc e = refl
the_rpc n.Root e = absurd cc
the_rpc n.Factotum e = absurd cc
the_rpc n.Ctl e = absurd cc
the_rpc n.Confirm e = absurd cc
the_rpc n.Needkey e = absurd cc
the_rpc n.Proto e = absurd cc
the_rpc n.Log e = absurd cc

rpc_write_served : (done : List Deed) (call : Call) (fid offset : ℕ) (content : List ℕ) (state : FidState) (c : Connection) (s : Shared) (reply : Option Reply) → fid_of done call.conn fid ≡ Some state → state.node ≡ Rpc → Keeps done call.conn c
    → WriteServed done call fid content s reply → Served done call (t.Write fid offset content) c s reply
unfolding after reply_of
rpc_write_served done call fid offset content state c s reply held is k h = record {
  keeps = rw (held, is) (stored_talks (λ now. Keeps now call.conn c) (keeps_all call.conn c).talks (conv_of done call.conn fid) (rpc.request_of content) done k);
  shares = rw (held, is) h.shares;
  said = subst (λ (o : Option FidState). Says call.tag (Some (write_reply done content (node_of o))) reply) (sym held) (subst (λ (n : Node). Says call.tag (Some (write_reply done content n)) reply) (sym is) h.said);
}

pub rpc_write_told : (done : List Deed) (call : Call) (fid offset : ℕ) (content : List ℕ) (state : FidState) (c : Connection) (s : Shared) (result : Result (Option Reply) Refused) → Keeps done call.conn c
    → fid_of done call.conn fid ≡ Some state → is_some state.mode ≡ true → lets_write state.mode ≡ true → is_rpc state.node ≡ true
    → WriteTold done call fid content s result → Told (refusal done call (t.Write fid offset content)) (Served done call (t.Write fid offset content) c s) result
rpc_write_told done call fid offset content state c s result k held opened lets is told =
    told_maps _ _ _ _ result (sym (rpc_write_refusal done call fid offset content state held opened lets (the_rpc state.node is)))
    (λ reply e served. rpc_write_served done call fid offset content state c s reply held (the_rpc state.node is) k served) told

-- ---- files of lines

-- a file of lines is one of three
abbrev pub IsLines : Node → Type 0
IsLines node = (node ≡ n.Confirm) ⊎ ((node ≡ n.Needkey) ⊎ (node ≡ n.Log))

line_refused : (done : List Deed) (call : Call) (fid offset count : ℕ) (state : FidState) → fid_of done call.conn fid ≡ Some state → is_some state.mode ≡ true → lets_read state.mode ≡ true → IsLines state.node
    → refusal done call (t.Read fid offset count) ≡ line_refusal done call.conn (line_found done call count state.node)
unfolding refusal fid_fault
line_refused done call fid offset count state held opened lets (inl is) = rw (held, opened, lets, is) refl
line_refused done call fid offset count state held opened lets (inr (inl is)) = rw (held, opened, lets, is) refl
line_refused done call fid offset count state held opened lets (inr (inr is)) = rw (held, opened, lets, is) refl

line_served : (done : List Deed) (call : Call) (fid offset count : ℕ) (state : FidState) (c : Connection) (s : Shared) (reply : Option Reply) → fid_of done call.conn fid ≡ Some state → IsLines state.node → Keeps done call.conn c
    → LineServed done call fid (effective count (msize_of done call.conn)) state.node (line_found done call count state.node) s reply → Served done call (t.Read fid offset count) c s reply
unfolding after reply_of
line_served done call fid offset count state c s reply held (inl is) k h = record {
  keeps = rw (held, is) (line_all (λ now. Keeps now call.conn c) (keeps_all call.conn c) call fid (effective count (msize_of done call.conn)) n.Confirm (line_found done call count n.Confirm) done k);
  shares = rw (held, is) (rw is at h.shares);
  said = rw (held, is) (rw is at h.said);
}
line_served done call fid offset count state c s reply held (inr (inl is)) k h = record {
  keeps = rw (held, is) (line_all (λ now. Keeps now call.conn c) (keeps_all call.conn c) call fid (effective count (msize_of done call.conn)) n.Needkey (line_found done call count n.Needkey) done k);
  shares = rw (held, is) (rw is at h.shares);
  said = rw (held, is) (rw is at h.said);
}
line_served done call fid offset count state c s reply held (inr (inr is)) k h = record {
  keeps = rw (held, is) (line_all (λ now. Keeps now call.conn c) (keeps_all call.conn c) call fid (effective count (msize_of done call.conn)) n.Log (line_found done call count n.Log) done k);
  shares = rw (held, is) (rw is at h.shares);
  said = rw (held, is) (rw is at h.said);
}

pub line_told : (done : List Deed) (call : Call) (fid offset count most : ℕ) (state : FidState) (c : Connection) (s : Shared) (result : Result (Option Reply) Refused) → Keeps done call.conn c
    → fid_of done call.conn fid ≡ Some state → is_some state.mode ≡ true → lets_read state.mode ≡ true → most ≡ effective count (msize_in c.phase) → IsLines state.node
    → LineTold done call fid most state.node (found most (lines_in done state.node)) s result → Told (refusal done call (t.Read fid offset count)) (Served done call (t.Read fid offset count) c s) result
line_told done call fid offset count most state c s result k held opened lets m is told =
    let size : most ≡ effective count (msize_of done call.conn) = m ∙ ap (effective count) k.msize in
    told_maps _ _ _ _ result (sym (line_refused done call fid offset count state held opened lets is))
    (λ reply e served. line_served done call fid offset count state c s reply held is k served)
    (subst (λ (n : ℕ). LineTold done call fid n state.node (found n (lines_in done state.node)) s result) size told)

-- ---- write of a file of questions

kind_not_rpc : (node : Node) (kind : PromptKind) → kind_at node ≡ Some kind → is_rpc node ≡ false
kind_not_rpc n.Rpc kind e = absurd cc
kind_not_rpc n.Root kind e = absurd cc
kind_not_rpc n.Factotum kind e = absurd cc
kind_not_rpc n.Ctl kind e = absurd cc
kind_not_rpc n.Confirm kind e = refl
kind_not_rpc n.Needkey kind e = refl
kind_not_rpc n.Proto kind e = absurd cc
kind_not_rpc n.Log kind e = absurd cc

kind_reply : (done : List Deed) (content : List ℕ) (node : Node) (kind : PromptKind) → kind_at node ≡ Some kind → write_reply done content node ≡ r.Write (length content)
kind_reply done content node kind is = rw (kind_not_rpc node kind is, is) refl

reply_refused : (done : List Deed) (call : Call) (fid offset : ℕ) (content : List ℕ) (state : FidState) (kind : PromptKind) → fid_of done call.conn fid ≡ Some state → is_some state.mode ≡ true → lets_write state.mode ≡ true → kind_at state.node ≡ Some kind
    → refusal done call (t.Write fid offset content) ≡ reply_refusal done kind (prompt.reply_of content)
unfolding refusal fid_fault
reply_refused done call fid offset content state kind held opened lets is = rw (held, opened, lets, is, kind_not_rpc state.node kind is) refl

reply_served : (done : List Deed) (call : Call) (fid offset : ℕ) (content : List ℕ) (state : FidState) (kind : PromptKind) (c : Connection) (s : Shared) (reply : Option Reply) → fid_of done call.conn fid ≡ Some state → kind_at state.node ≡ Some kind → Keeps done call.conn c
    → ReplyServed done call kind content s reply → Served done call (t.Write fid offset content) c s reply
unfolding after reply_of
reply_served done call fid offset content state kind c s reply held is k h = record {
  keeps = rw (held, kind_not_rpc state.node kind is, is) (replying_all (λ now. Keeps now call.conn c) (keeps_all call.conn c) (Some kind) (prompt.reply_of content) done k);
  shares = rw (held, kind_not_rpc state.node kind is, is) h.shares;
  said = subst (λ (o : Option FidState). Says call.tag (Some (write_reply done content (node_of o))) reply) (sym held) (subst (λ (b : RBody). Says call.tag (Some b) reply) (sym (kind_reply done content state.node kind is)) h.said);
}

pub reply_told : (done : List Deed) (call : Call) (fid offset : ℕ) (content : List ℕ) (state : FidState) (kind : PromptKind) (c : Connection) (s : Shared) (result : Result (Option Reply) Refused) → Keeps done call.conn c
    → fid_of done call.conn fid ≡ Some state → is_some state.mode ≡ true → lets_write state.mode ≡ true → kind_at state.node ≡ Some kind
    → ReplyTold done call kind content s result → Told (refusal done call (t.Write fid offset content)) (Served done call (t.Write fid offset content) c s) result
reply_told done call fid offset content state kind c s result k held opened lets is told =
    told_maps _ _ _ _ result (sym (reply_refused done call fid offset content state kind held opened lets is))
    (λ reply e served. reply_served done call fid offset content state kind c s reply held is k served) told

-- ---- write of ctl

pub write_allowed : (done : List Deed) (call : Call) (fid offset : ℕ) (content : List ℕ) (state : FidState) → fid_of done call.conn fid ≡ Some state → is_some state.mode ≡ true → lets_write state.mode ≡ true → is_rpc state.node ≡ false → kind_at state.node ≡ None
    → refusal done call (t.Write fid offset content) ≡ None
unfolding refusal fid_fault
write_allowed done call fid offset content state held opened lets rpc none = rw (held, opened, lets, rpc, none) refl

-- the keys of the deeds are those after the lines
keys_line : (conn : ℕ) (said : CtlLine) (done : List Deed) → keys_of (OfKeys conn (line_deed said) ∷ done) ≡ keys_with said (keys_of done)
keys_line conn (OnKeys (Add key)) done = refl
keys_line conn (OnKeys (Delete template)) done = refl
keys_line conn Debug done = refl

keys_lines : (conn : ℕ) (said : List CtlLine) (done : List Deed) → keys_of (lines_done conn said done) ≡ keys_with_all said (keys_of done)
keys_lines conn [] done = refl
keys_lines conn (said ∷ more) done = keys_lines conn more (OfKeys conn (line_deed said) ∷ done) ∙ ap (keys_with_all more) (keys_line conn said done)

pub write_served : (done : List Deed) (call : Call) (fid offset : ℕ) (content : List ℕ) (state : FidState) (c : Connection) (s u : Shared) (reply : Reply) → fid_of done call.conn fid ≡ Some state → is_rpc state.node ≡ false → kind_at state.node ≡ None → Keeps done call.conn c → Shares done s
    → u.holders ≡ s.holders → u.mailboxes ≡ s.mailboxes → ((now : List Deed) (conn : ℕ) → Logs now s.talks → Logs (switching (switches s.ring (lines_of content)) conn now) u.talks) → u.ring ≡ after_lines s.ring (lines_of content)
    → reply_bytes reply ≡ r_frame (under call.tag (written content (lines_fault s.ring (lines_of content)))) → Served done call (t.Write fid offset content) c u (Some reply)
unfolding after reply_of
write_served done call fid offset content state c s u reply held other none k h holders mail talks ring said =
    let lines : List CtlLine = carried_out (keys_of done) (lines_of content) in
    let conn : ℕ = call.conn in
    record {
      keeps = rw (held, other, none) (lines_own conn (λ now. Keeps now conn c) (keeps_keys conn c) lines done k);
      shares = rw (held, other, none) (record {
        ring = ring ∙ (ap (λ (keys : KeyList). after_lines keys (lines_of content)) h.ring ∙ sym (keys_lines conn lines done));
        holders = subst (λ (now : Holders). Holds (lines_done conn lines done) now) (sym holders) (lines_own conn (λ now. Holds now s.holders) (holds_keys conn s.holders) lines done h.holders);
        mail = subst (λ (now : Mailboxes). Delivers (lines_done conn lines done) now) (sym mail) (lines_own conn (λ now. Delivers now s.mailboxes) (λ deed now d. keys_delivers now s.mailboxes conn deed d) lines done h.mail);
        talks = lines_logs lines done u.talks conn (subst (λ (keys : KeyList). Logs (switching (switches keys (lines_of content)) conn done) u.talks) h.ring (talks done conn h.talks));
        live = lines_own conn AreLive (λ deed now l. l) lines done h.live;
        held = lines_own conn HoldersLive (λ deed now l. l) lines done h.held;
      });
      said = rw (held, other, none) (said ∙ ap (λ (keys : KeyList). r_frame (under call.tag (written content (lines_fault keys (lines_of content))))) h.ring);
    }

-- ---- auth

pub auth_told : (done : List Deed) (call : Call) (afid : ℕ) (uname aname : List ℕ) (c : Connection) (s : Shared) → Told (refusal done call (t.Auth afid uname aname)) (Served done call (t.Auth afid uname aname) c s) (Err (e.For f.NoAuthentication))
unfolding refusal
auth_told done call afid uname aname c s = refl
