-- What a connection of the agent keeps, against what is read off the deeds; and what a request that was tried leaves.
use Rattle.std.specs.Prelude.{◌≡◌, ℕ, ◌+◌, ◌≤◌, List, [], length, Bool, true, false, Option, Some, None, Result, Ok, Err, IfOk, OnErr, codes}
use Rattle.std.specs.Ordering.{nat_cmp}
use Rattle.std.specs.BTreeMap.{get}
use Rattle.file_tree.specs.declared.tree.FidState.{FidState}
use Rattle.file_tree.specs.declared.fault.FidFault.{FidFault}
use Rattle.file_tree.specs.declared.fault.FidFault.TheVariants as g
use Rattle.file_tree.specs.Faults.{fault_text}
use Rattle.file_tree.specs.declared.fids.Fid.{Fid}
use Rattle.file_tree.specs.Held.{fid_at, held_in}
use Rattle.agent_history.specs.Deeds.{Deed, was_hung, msize_of, fid_of, held_by, next_of, text_of}
use Rattle.agent_history.specs.Requests as history
use Rattle.agent_history.specs.Requests.{refusal, after, reply_of, after_frame, body_to}
use Rattle.nine.specs.declared.message.TBody.{TBody}
use Rattle.nine.specs.declared.message.TBody.TheVariants as t
use Rattle.nine.specs.declared.message.RBody.{RBody}
use Rattle.nine.specs.Messages.{r_frame}
use Rattle.key_ring.specs.Faults.{line_text}
use Rattle.mailboxes.specs.declared.reply.Reply.{Reply}
use Rattle.mailboxes.specs.Kept.{reply_bytes}
use Rattle.mailboxes.specs.Deliveries.{has_room, under}
use Rattle.agent_requests.specs.declared.shared.Shared.{Shared}
use Rattle.agent_requests.specs.Sharing.{SameShared, Shares}
use Rattle.agent_requests.specs.declared.call.Call.{Call}
use Rattle.agent_requests.specs.declared.connection.Phase.{Phase}
use Rattle.agent_requests.specs.declared.connection.Phase.TheVariants as p
use Rattle.agent_requests.specs.declared.connection.Connection.{Connection}
use Rattle.agent_requests.specs.declared.refused.Refusal.{Refusal}
use Rattle.agent_requests.specs.declared.refused.Refusal.TheVariants as f
use Rattle.agent_requests.specs.declared.refused.Refused.{Refused}
use Rattle.agent_requests.specs.declared.refused.Refused.TheVariants as e

-- ---- what a connection keeps

-- it took part in an event that was carried out
abbrev pub is_opened : Phase → Bool
is_opened p.Fresh = false
is_opened phase = true

-- the largest message that was agreed
abbrev pub msize_in : Phase → Option ℕ
msize_in (p.Agreed msize) = Some msize
msize_in phase = None

-- a fid as it is kept
abbrev pub kept_fid : Option FidState → ℕ → Option Fid
kept_fid None next = None
kept_fid (Some state) next = Some (record { state = state; next = next })

abbrev pub text_in : Option (List ℕ) → List ℕ
text_in None = []
text_in (Some text) = text

-- the connection, which isn't hung up, keeps what the deeds say of it
pub record Keeps (done : List Deed) (conn : ℕ) (c : Connection) : Type 0 where
  pub live : was_hung done conn ≡ false
  pub msize : msize_in c.phase ≡ msize_of done conn
  pub fids : (fid : ℕ) → fid_at c.fids fid ≡ kept_fid (fid_of done conn fid) (next_of done conn fid)
  pub held : held_in c.fids ≡ held_by done conn
  pub texts : (fid : ℕ) → text_in (get nat_cmp c.texts fid) ≡ text_of done conn fid

-- the same is kept
pub record SameKept (old new : Connection) : Type 0 where
  pub phase : new.phase ≡ old.phase
  pub fids : new.fids ≡ old.fids
  pub texts : (fid : ℕ) → get nat_cmp new.texts fid ≡ get nat_cmp old.texts fid

-- nothing is known of the connection yet
pub record IsFresh (c : Connection) : Type 0 where
  pub phase : c.phase ≡ p.Fresh
  pub fids : c.fids ≡ []
  pub texts : (fid : ℕ) → get nat_cmp c.texts fid ≡ None

-- ---- refusals

-- what a fault of a fid makes of a request
abbrev pub refused_by : FidFault → Refused
refused_by g.NoMemory = e.NoMemory
refused_by fault = e.For (f.OfFid fault)

abbrev pub refusal_text : Refusal → List ℕ
refusal_text f.OverMsize = codes "message over msize"
refusal_text f.BadMessage = codes "bad message"
refusal_text f.NoVersion = codes "no version"
refusal_text f.DuplicateTag = codes "duplicate tag"
refusal_text f.MsizeTooSmall = codes "msize too small"
refusal_text f.NoAuthentication = codes "authentication not required"
refusal_text f.BadAfid = codes "bad afid"
refusal_text f.ExclusiveUse = codes "exclusive use file already open"
refusal_text f.TooManyConversations = codes "too many conversations"
refusal_text f.RpcBusy = codes "rpc busy"
refusal_text f.NoRpcPending = codes "no rpc pending"
refusal_text f.TooManyWaiting = codes "too many waiting"
refusal_text f.RpcTooLong = codes "rpc too long"
refusal_text f.UnknownRpcVerb = codes "unknown rpc verb"
refusal_text f.BadReply = codes "bad reply"
refusal_text f.UnknownTag = codes "unknown tag"
refusal_text f.ReadTooSmall = codes "read too small"
refusal_text f.PermissionDenied = codes "permission denied"
refusal_text f.NotOpen = codes "not open"
refusal_text f.NotOpenForReading = codes "not open for reading"
refusal_text f.NotOpenForWriting = codes "not open for writing"
refusal_text (f.OfFid fault) = fault_text fault
refusal_text (f.OfLine fault) = line_text fault

-- What a request that was tried answered. Where a test refuses it, the answer is that refusal. Where none does, it was
-- served. Want of memory may be answered at any time.
abbrev pub Told : Option (List ℕ) → (Option Reply → Type 0) → Result (Option Reply) Refused → Type 0
Told None served (Ok reply) = served reply
Told (Some text) served (Ok reply) = ⊥
Told None served (Err (e.For why)) = ⊥
Told (Some text) served (Err (e.For why)) = refusal_text why ≡ text
Told refused served (Err e.NoMemory) = Unit {0}

-- ---- replies

-- the reply is this one, or there is none where the request waits for it
abbrev pub Says : ℕ → Option RBody → Option Reply → Type 0
Says tag (Some body) (Some reply) = reply_bytes reply ≡ r_frame (under tag body)
Says tag None None = Unit {0}
Says tag (Some body) None = ⊥
Says tag None (Some reply) = ⊥

-- ---- requests

-- what a request carries, to the history
abbrev pub asked : Call → history.Call
asked call = record { conn = call.conn; tag = call.tag; word = call.word }

-- what is kept and shared after a request that was served, and its reply
pub record Served (done : List Deed) (call : history.Call) (body : TBody) (c : Connection) (s : Shared)
    (reply : Option Reply) : Type 0 where
  pub keeps : Keeps (after done call body) call.conn c
  pub shares : Shares (after done call body) s
  pub said : Says call.tag (reply_of done call body) reply

-- What a request does, whatever was done before it. It adds no more keys than its frame has bytes, and
-- leaves the room that was made for its reply. Where it isn't served nothing changes.
pub record Tried (call : Call) (body : TBody) (old new : Connection) (s u : Shared)
    (result : Result (Option Reply) Refused) : Type 0 where
  pub told : (done : List Deed) → Keeps done call.conn old → Shares done s
      → Told (refusal done (asked call) body) (Served done (asked call) body new u) result
  pub few : u.ring.ever_added ≤ s.ring.ever_added + 8216
  pub room : has_room u.mailboxes call.conn ≡ has_room s.mailboxes call.conn
  pub kept : OnErr result (SameKept old new)
  pub shared : OnErr result (SameShared s u)

-- ---- frames

-- a write has at most so many bytes
abbrev pub WritesAtMost : ℕ → TBody → Type 0
WritesAtMost most (t.Write fid offset content) = length content ≤ most
WritesAtMost most body = Unit {0}

-- the text that refuses a frame, if one does
abbrev pub refusal_of : Result TBody (List ℕ) → Option (List ℕ)
refusal_of (Err text) = Some text
refusal_of (Ok body) = None

-- what is kept and shared after a frame that was answered, and its reply
pub record FrameServed (done : List Deed) (call : history.Call) (frame : List ℕ) (c : Connection) (s : Shared)
    (reply : Option Reply) : Type 0 where
  pub keeps : Keeps (after_frame done call frame) call.conn c
  pub shares : Shares (after_frame done call frame) s
  pub said : Says call.tag (body_to done call frame) reply

-- the same of a frame as of a request
pub record FrameTried (call : Call) (frame : List ℕ) (old new : Connection) (s u : Shared)
    (result : Result (Option Reply) Refused) : Type 0 where
  pub told : (done : List Deed) → Keeps done call.conn old → Shares done s
      → Told (refusal_of (history.granted done (asked call) frame)) (FrameServed done (asked call) frame new u) result
  pub few : u.ring.ever_added ≤ s.ring.ever_added + 8216
  pub room : has_room u.mailboxes call.conn ≡ has_room s.mailboxes call.conn
  pub kept : OnErr result (SameKept old new)
  pub shared : OnErr result (SameShared s u)

-- a frame was answered, by what it asked for or by what refuses it
pub record FrameAnswered {E : Type 0} (call : Call) (frame : List ℕ) (old new : Connection) (s u : Shared)
    (result : Result (Option Reply) E) : Type 0 where
  pub served : IfOk result (λ reply. (done : List Deed) → Keeps done call.conn old → Shares done s
      → FrameServed done (asked call) frame new u reply)
  pub few : u.ring.ever_added ≤ s.ring.ever_added + 8216
  pub room : has_room u.mailboxes call.conn ≡ has_room s.mailboxes call.conn
  pub kept : OnErr result (SameKept old new)
  pub shared : OnErr result (SameShared s u)
