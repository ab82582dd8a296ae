-- What an agent did, as a list of deeds, the newest first: what stands behind a deed is all that was done before it.
-- What is asked of it is one recursion a question; a deed that a question doesn't name leaves its answer as it was.
-- Each deed has a meaning at each place of a list: where it finds nothing it does nothing. After section 5 of the
-- Plan 9 manual (version, attach, walk, open, read, clunk, flush) and factotum(4) (ctl, confirm, needkey, log).
use Rattle.std.specs.Prelude.{ℕ, ◌+◌, ◌-◌, List, [], ◌∷◌, Bool, true, false, not, ◌&&◌, ◌||◌, ◌==◌, Option, Some, None, if◌then◌else◌}
use Rattle.nine.specs.declared.message.RBody.{RBody}
use Rattle.file_tree.specs.declared.tree.Node.{Node}
use Rattle.file_tree.specs.declared.tree.FidState.{FidState}
use Rattle.file_tree.specs.Tree.{file}
use Rattle.file_tree.specs.Calls.{attached, at_rest, opened}
use Rattle.key_lists.specs.Lists.{KeyList}
use Rattle.key_lists.specs.Edits.{KeyEdit, keys_after}
use Rattle.key_lists.specs.Listing.{list_text}
use Rattle.side_files.specs.Calls as side
use Rattle.side_files.specs.declared.line.PromptKind.{PromptKind}
use Rattle.talks.specs.Calls.{Call}

-- what was done with the fids of a connection
pub data FidDeed : Type 0 where
  -- a version was answered, and all fids of the connection were given up: this largest message was agreed, or none
  -- where the version isn't known
  Versioned : (msize : Option ℕ) → FidDeed
  -- the fid names the root from then on
  Attached : (fid : ℕ) → FidDeed
  -- the fid names this file from then on
  Walked : (fid : ℕ) (node : Node) → FidDeed
  -- the file of the fid was opened
  Opened : (fid mode : ℕ) → FidDeed
  -- the fid, open on ctl, was read from 0
  Listed : (fid : ℕ) → FidDeed
  -- the fid, open on a directory, was read, and its next read may begin here
  Browsed : (fid next : ℕ) → FidDeed
  -- the fid was given up
  Clunked : (fid : ℕ) → FidDeed

-- what a line of ctl did
pub data KeyDeed : Type 0 where
  -- it added a key or deleted some
  Edited : (edit : KeyEdit) → KeyDeed
  -- it switched the further lines of the log on or off
  Switched : KeyDeed

-- what became of the requests of a connection
pub data ReplyDeed : Type 0 where
  -- a request has this reply
  Answered : (tag : ℕ) (body : RBody) → ReplyDeed
  -- a read of the fid waits for its reply, which may hold so many bytes
  Awaited : (tag fid count : ℕ) → ReplyDeed
  -- the read that waits under the tag has this reply
  Settled : (tag : ℕ) (body : RBody) → ReplyDeed
  -- the read that waits under the tag gets no reply
  Flushed : (tag : ℕ) → ReplyDeed
  -- the oldest reply that wasn't taken yet was taken
  Taken : ReplyDeed

-- what became of a connection
pub data ConnectionDeed : Type 0 where
  -- it was opened
  Entered : ConnectionDeed
  -- it was hung up
  Hung : ConnectionDeed

-- what was done, and on which connection
pub data Deed : Type 0 where
  OfFids : (conn : ℕ) (deed : FidDeed) → Deed
  OfKeys : (conn : ℕ) (deed : KeyDeed) → Deed
  OfReplies : (conn : ℕ) (deed : ReplyDeed) → Deed
  OfConnection : (conn : ℕ) (deed : ConnectionDeed) → Deed
  -- what the conversation of a number met
  OfTalk : (conv : ℕ) (call : Call) → Deed
  -- what was done with the questions of confirm, or of needkey
  OfPrompts : (kind : PromptKind) (call : side.Call) → Deed
  -- what was done with the log
  OfLog : (call : side.LogCall) → Deed
  -- a conversation asks the authentication server, under the next number
  Raised : (conv : ℕ) → Deed
  -- the oldest question that wasn't handed out yet was handed out
  HandedOut : Deed
  -- the oldest connection to the authentication server that is to be given up was given up
  DropTaken : Deed
  -- the replies to the reads that were settled stand behind the others of their connections, in the order in which the
  -- reads came
  Swept : Deed
  -- the agent stopped
  Halted : Deed

-- ---- connections

-- the connection was opened
abbrev pub was_opened : List Deed → ℕ → Bool
was_opened [] conn = false
was_opened (OfConnection at Entered ∷ before) conn = at == conn || was_opened before conn
was_opened (deed ∷ before) conn = was_opened before conn

-- the connection was hung up
abbrev pub was_hung : List Deed → ℕ → Bool
was_hung [] conn = false
was_hung (OfConnection at Hung ∷ before) conn = at == conn || was_hung before conn
was_hung (deed ∷ before) conn = was_hung before conn

-- the agent stopped
abbrev pub is_halted : List Deed → Bool
is_halted [] = false
is_halted (Halted ∷ before) = true
is_halted (deed ∷ before) = is_halted before

-- nothing happens on the connection any more
abbrev pub is_gone : List Deed → ℕ → Bool
is_gone done conn = is_halted done || was_hung done conn

-- the largest message that was agreed on a connection last; none where no version is agreed
abbrev pub msize_of : List Deed → ℕ → Option ℕ
msize_of [] conn = None
msize_of (OfFids at (Versioned msize) ∷ before) conn = if at == conn then msize else msize_of before conn
msize_of (OfConnection at Hung ∷ before) conn = if at == conn then None else msize_of before conn
msize_of (Halted ∷ before) conn = None
msize_of (deed ∷ before) conn = msize_of before conn

-- ---- fids

-- what a fid of a connection names, read off the last deed that concerns it
abbrev pub fid_of : List Deed → ℕ → ℕ → Option FidState
fid_of [] conn fid = None
fid_of (OfFids at (Versioned msize) ∷ before) conn fid = if at == conn then None else fid_of before conn fid
fid_of (OfFids at (Attached f) ∷ before) conn fid = if at == conn && f == fid then attached else fid_of before conn fid
fid_of (OfFids at (Walked f node) ∷ before) conn fid =
    if at == conn && f == fid then Some (at_rest node)
    else fid_of before conn fid
fid_of (OfFids at (Opened f mode) ∷ before) conn fid =
    if at == conn && f == fid then opened mode (fid_of before conn fid)
    else fid_of before conn fid
fid_of (OfFids at (Clunked f) ∷ before) conn fid = if at == conn && f == fid then None else fid_of before conn fid
fid_of (OfConnection at Hung ∷ before) conn fid = if at == conn then None else fid_of before conn fid
fid_of (Halted ∷ before) conn fid = None
fid_of (deed ∷ before) conn fid = fid_of before conn fid

-- one more fid is held where it wasn't held before
abbrev pub one_more : Option FidState → ℕ → ℕ
one_more None held = held + 1
one_more (Some state) held = held

-- one less is held where it was held before
abbrev pub one_less : Option FidState → ℕ → ℕ
one_less None held = held
one_less (Some state) held = held - 1

-- how many fids a connection holds
abbrev pub held_by : List Deed → ℕ → ℕ
held_by [] conn = 0
held_by (OfFids at (Versioned msize) ∷ before) conn = if at == conn then 0 else held_by before conn
held_by (OfFids at (Attached f) ∷ before) conn =
    if at == conn then one_more (fid_of before conn f) (held_by before conn)
    else held_by before conn
held_by (OfFids at (Walked f node) ∷ before) conn =
    if at == conn then one_more (fid_of before conn f) (held_by before conn)
    else held_by before conn
held_by (OfFids at (Clunked f) ∷ before) conn =
    if at == conn then one_less (fid_of before conn f) (held_by before conn)
    else held_by before conn
held_by (OfConnection at Hung ∷ before) conn = if at == conn then 0 else held_by before conn
held_by (Halted ∷ before) conn = 0
held_by (deed ∷ before) conn = held_by before conn

-- where the next read of a directory by a fid may begin, if not at 0: where its latest read ended
abbrev pub next_of : List Deed → ℕ → ℕ → ℕ
next_of [] conn fid = 0
next_of (OfFids at (Versioned msize) ∷ before) conn fid = if at == conn then 0 else next_of before conn fid
next_of (OfFids at (Attached f) ∷ before) conn fid = if at == conn && f == fid then 0 else next_of before conn fid
next_of (OfFids at (Walked f node) ∷ before) conn fid = if at == conn && f == fid then 0 else next_of before conn fid
next_of (OfFids at (Opened f mode) ∷ before) conn fid = if at == conn && f == fid then 0 else next_of before conn fid
next_of (OfFids at (Browsed f next) ∷ before) conn fid =
    if at == conn && f == fid then next
    else next_of before conn fid
next_of (OfFids at (Clunked f) ∷ before) conn fid = if at == conn && f == fid then 0 else next_of before conn fid
next_of (OfConnection at Hung ∷ before) conn fid = if at == conn then 0 else next_of before conn fid
next_of (Halted ∷ before) conn fid = 0
next_of (deed ∷ before) conn fid = next_of before conn fid

-- ---- files that are open by one fid at a time

-- the fid of a connection names the file
abbrev pub names : Node → Option FidState → Bool
names node None = false
names node (Some state) = (file state.node).path == (file node).path

-- nobody holds it any more where the one who did is meant
abbrev pub without : (ℕ × ℕ → Bool) → Option (ℕ × ℕ) → Option (ℕ × ℕ)
without leaves None = None
without leaves (Some holder) = if leaves holder then None else Some holder

-- the connection and the fid that have a file open, of those that opened it last
abbrev pub holder_of : List Deed → Node → Option (ℕ × ℕ)
holder_of [] node = None
holder_of (OfFids at (Opened f mode) ∷ before) node =
    if names node (fid_of before at f) then Some (at, f)
    else holder_of before node
holder_of (OfFids at (Versioned msize) ∷ before) node = without (λ holder. holder.0 == at) (holder_of before node)
holder_of (OfFids at (Clunked f) ∷ before) node =
    without (λ holder. holder.0 == at && holder.1 == f) (holder_of before node)
holder_of (OfConnection at Hung ∷ before) node = without (λ holder. holder.0 == at) (holder_of before node)
holder_of (Halted ∷ before) node = None
holder_of (deed ∷ before) node = holder_of before node

-- ---- keys

-- the lines on keys that were carried out, the newest first
abbrev pub edits_of : List Deed → List KeyEdit
edits_of [] = []
edits_of (OfKeys at (Edited edit) ∷ before) = edit ∷ edits_of before
edits_of (deed ∷ before) = edits_of before

-- the keys
abbrev pub keys_of : List Deed → KeyList
keys_of done = keys_after (edits_of done)

-- the further lines of the log are wanted: each such line of ctl switches them on or off
abbrev pub is_debug : List Deed → Bool
is_debug [] = false
is_debug (OfKeys at Switched ∷ before) = not (is_debug before)
is_debug (deed ∷ before) = is_debug before

-- the text that a fid open on ctl reads: the list at its last read from 0, none before it
abbrev pub text_of : List Deed → ℕ → ℕ → List ℕ
text_of [] conn fid = []
text_of (OfFids at (Versioned msize) ∷ before) conn fid = if at == conn then [] else text_of before conn fid
text_of (OfFids at (Attached f) ∷ before) conn fid = if at == conn && f == fid then [] else text_of before conn fid
text_of (OfFids at (Walked f node) ∷ before) conn fid = if at == conn && f == fid then [] else text_of before conn fid
text_of (OfFids at (Listed f) ∷ before) conn fid =
    if at == conn && f == fid then list_text (keys_of before)
    else text_of before conn fid
text_of (OfFids at (Clunked f) ∷ before) conn fid = if at == conn && f == fid then [] else text_of before conn fid
text_of (OfConnection at Hung ∷ before) conn fid = if at == conn then [] else text_of before conn fid
text_of (Halted ∷ before) conn fid = []
text_of (deed ∷ before) conn fid = text_of before conn fid
