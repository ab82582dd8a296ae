-- The requests by which a port asks an agent, on a connection of its own, each followed by a take of its reply; and
-- what is replied. After section 5 of the Plan 9 manual and factotum(4); which fids, tags and counts are used is this
-- project's.
use Rattle.std.specs.Prelude.{◌≡◌, ℕ, List, [], ◌∷◌, replicate, Bool, true, false, ◌||◌, Option, Some, None, codes, if◌then◌else◌}
use Rattle.std.specs.Str.{bytes_eq}
use Rattle.nine.specs.declared.message.TBody.{TBody}
use Rattle.nine.specs.declared.message.TBody.TheVariants as t
use Rattle.nine.specs.declared.message.RMsg.{RMsg}
use Rattle.nine.specs.declared.message.RBody.{RBody}
use Rattle.nine.specs.declared.message.RBody.TheVariants as r
use Rattle.nine.specs.Messages.{t_frame}
use Rattle.agent_history.specs.declared.event.Event.TheVariants.{Request, Take}
use Rattle.agent_history.specs.Deeds.{is_gone}
use Rattle.agent_history.specs.Replies.{untaken}
use Rattle.agent_history.specs.Histories.{History, deeds}
use Rattle.door_ports.specs.declared.reply.Reply.{Reply}
use Rattle.door_ports.specs.declared.reply.Reply.TheVariants.{Gone, Silent, Refused, Read, Done}

-- ---- requests, as frames

-- a request under a tag
abbrev pub under : ℕ → TBody → List ℕ
under tag body = t_frame (record { tag = tag; body = body })

abbrev pub no_tag : ℕ
no_tag = 65535

abbrev pub no_fid : ℕ
no_fid = 4294967295

-- a mode in which a file is read and written
abbrev pub both_ways : ℕ
both_ways = 2

-- the version is agreed on
abbrev pub agrees : List ℕ
agrees = under no_tag (t.Version 8216 (codes "9P2000"))

-- fid 0 names the root
abbrev pub attaches : List ℕ
attaches = under 0 (t.Attach 0 no_fid (codes "world") [])

-- a fid comes to name a file of the agent, and is opened
abbrev pub walks : ℕ → List ℕ → List ℕ
walks fid file = under 0 (t.Walk 0 fid (codes "factotum" ∷ file ∷ []))

abbrev pub opens : ℕ → List ℕ
opens fid = under 0 (t.Open fid both_ways)

-- bytes are written, and read under the tag of the fid
abbrev pub writes : ℕ → List ℕ → List ℕ
writes fid bytes = under 0 (t.Write fid 0 bytes)

abbrev pub reads : ℕ → List ℕ
reads fid = under fid (t.Read fid 0 8192)

-- a fid is given up
abbrev pub clunks : ℕ → List ℕ
clunks fid = under 0 (t.Clunk fid)

-- no random word
abbrev pub no_word : List ℕ
no_word = replicate 8 0

-- ---- what comes

-- what a reply tells
abbrev pub told_by : RBody → Reply
told_by (r.Error text) = Refused text
told_by (r.Read content) = Read content
told_by body = Done

-- the oldest of the replies that are left
abbrev pub first_told : List RMsg → Reply
first_told [] = Silent
first_told (m ∷ rest) = told_by m.body

-- what a take of a connection gives
abbrev pub taken_of : ℕ → History → Reply
taken_of conn H = if is_gone (deeds H) conn then Gone else first_told (untaken (deeds H) conn)

-- a frame comes with a word, and its reply is taken: the reply, and the history then
abbrev pub reply_to : ℕ → List ℕ → List ℕ → History → Reply
reply_to conn frame word H = taken_of conn (Request conn frame word ∷ H)

abbrev pub exchanged : ℕ → List ℕ → List ℕ → History → History
exchanged conn frame word H = Take conn ∷ Request conn frame word ∷ H

-- the same, with no random word
abbrev pub reply : ℕ → List ℕ → History → Reply
reply conn frame H = reply_to conn frame no_word H

abbrev pub asked : ℕ → List ℕ → History → History
asked conn frame H = exchanged conn frame no_word H

-- ---- a connection is made ready

-- 0 names the root, and 1 has ctl open
abbrev pub prepared : ℕ → History → History
prepared conn H =
    asked conn (opens 1) (asked conn (walks 1 (codes "ctl")) (asked conn attaches (asked conn agrees H)))

-- ---- exchanges

-- a frame came on a connection with a word, and its reply was taken; lists of exchanges have the newest first
pub record Exchange : Type 0 where
  pub conn : ℕ
  pub frame : List ℕ
  pub word : List ℕ
  pub reply : Reply

-- such an exchange by its parts
abbrev pub exchange : ℕ → List ℕ → List ℕ → Reply → Exchange
exchange conn frame word reply = record { conn = conn; frame = frame; word = word; reply = reply }

-- this frame came in it, on this connection and with this word
abbrev pub Sends : ℕ → List ℕ → List ℕ → Exchange → Type 0
Sends conn frame word e = (e.conn ≡ conn) × (e.frame ≡ frame) × (e.word ≡ word)

-- ---- a connection is made ready: whatever is replied

abbrev pub IsPreparing : ℕ → List Exchange → Type 0
IsPreparing conn (fourth ∷ third ∷ second ∷ first ∷ []) =
    Sends conn agrees no_word first × Sends conn attaches no_word second
    × Sends conn (walks 1 (codes "ctl")) no_word third × Sends conn (opens 1) no_word fourth
IsPreparing conn more = ⊥

-- ---- a fid opens rpc

-- the agent lets a request, or refuses it by one of its two limits or because it is gone; what else it may reply no
-- open knows
abbrev pub is_limit : List ℕ → Bool
is_limit text = bytes_eq text (codes "too many fids") || bytes_eq text (codes "too many conversations")

abbrev pub limited : Bool → Option Bool
limited true = Some false
limited false = None

abbrev pub lets : Reply → Option Bool
lets Done = Some true
lets Gone = Some false
lets (Refused text) = limited (is_limit text)
lets (Read content) = None
lets Silent = None

-- a request came, and the agent let it or didn't
abbrev pub IsLet : ℕ → List ℕ → Bool → Exchange → Type 0
IsLet conn frame let_it e = Sends conn frame no_word e × (lets e.reply ≡ Some let_it)

-- both requests are let; or the first isn't; or the second isn't, and the fid is given up again
abbrev pub IsTry : ℕ → ℕ → Bool → List Exchange → Type 0
IsTry conn fid true (second ∷ first ∷ []) =
    IsLet conn (walks fid (codes "rpc")) true first × IsLet conn (opens fid) true second
IsTry conn fid false (first ∷ []) = IsLet conn (walks fid (codes "rpc")) false first
IsTry conn fid false (third ∷ second ∷ first ∷ []) =
    IsLet conn (walks fid (codes "rpc")) true first × IsLet conn (opens fid) false second
    × Sends conn (clunks fid) no_word third
IsTry conn fid let_it more = ⊥

-- ---- a fid that has rpc open is asked

abbrev pub is_done : Reply → Bool
is_done Done = true
is_done reply = false

-- a request is written, and where that is done it is read with the word; this is what is replied last
abbrev pub IsTold : ℕ → ℕ → List ℕ → List ℕ → Reply → List Exchange → Type 0
IsTold conn fid request word reply (first ∷ []) =
    Sends conn (writes fid request) no_word first × (is_done first.reply ≡ false) × (first.reply ≡ reply)
IsTold conn fid request word reply (second ∷ first ∷ []) =
    Sends conn (writes fid request) no_word first × (is_done first.reply ≡ true)
    × Sends conn (reads fid) word second × (second.reply ≡ reply)
IsTold conn fid request word reply more = ⊥

-- ---- a fid is given up

abbrev pub IsClunk : ℕ → ℕ → List Exchange → Type 0
IsClunk conn fid (one ∷ []) = Sends conn (clunks fid) no_word one
IsClunk conn fid more = ⊥
