-- When the mailboxes of all connections hold what a list of deeds says of their replies and of the reads that wait.
use Rattle.std.specs.Prelude.{◌≡◌, ℕ, List, map, Bool, false, Option, Some, None, option_map}
use Rattle.std.specs.Ordering.{nat_cmp}
use Rattle.std.specs.BTreeMap.{get}
use Rattle.nine.specs.declared.message.RMsg.{RMsg}
use Rattle.nine.specs.declared.message.RBody.{RBody}
use Rattle.nine.specs.Messages.{r_frame}
use Rattle.agent_history.specs.Deeds.{Deed, was_hung}
use Rattle.agent_history.specs.Replies.{Wait, fid_given_up, waits, untaken, has_settled}
use Rattle.mailboxes.specs.declared.mailboxes.Mailboxes.{Mailboxes}
use Rattle.mailboxes.specs.declared.wait.Read.{Read}
use Rattle.mailboxes.specs.Mails.{Pending, Mail, no_mail}

-- what is kept for a connection
abbrev pub mail_in : Option Mail → Mail
mail_in None = no_mail
mail_in (Some mail) = mail

abbrev pub mail_at : Mailboxes → ℕ → Mail
mail_at m conn = mail_in (get nat_cmp m.boxes conn)

-- the frames that can be taken, and the reads that wait
abbrev pub replies_at : Mailboxes → ℕ → List (List ℕ)
replies_at m conn = (mail_at m conn).replies

abbrev pub has_room : Mailboxes → ℕ → Bool
has_room m conn = (mail_at m conn).has_room

abbrev pub has_place : Mailboxes → ℕ → Bool
has_place m conn = (mail_at m conn).has_place

-- a reply
abbrev pub under : ℕ → RBody → RMsg
under tag body = record { tag = tag; body = body }

-- a read that waits, with the frame of its reply
abbrev pub pending : Wait → Pending
pending wait = record {
  tag = wait.tag;
  fid = wait.fid;
  count = wait.count;
  reply = option_map (λ body. r_frame (under wait.tag body)) wait.reply;
}

-- a read that waits, as it came
abbrev pub read_of : Wait → Read
read_of wait = record { tag = wait.tag; fid = wait.fid; count = wait.count }

-- the frame that a read is told whose fid is given up, by its tag
abbrev pub given_up : ℕ → List ℕ
given_up tag = r_frame (under tag fid_given_up)

-- what is kept of a connection is what the deeds say of it
pub record Keeps (done : List Deed) (conn : ℕ) (mail : Mail) : Type 0 where
  pub replies : mail.replies ≡ map r_frame (untaken done conn)
  pub waits : mail.waits ≡ map pending (waits done conn)

-- so it is of each connection that wasn't hung up, and it is told whether a read was settled since the last sweep
pub record Delivers (done : List Deed) (m : Mailboxes) : Type 0 where
  pub mails : (conn : ℕ) → was_hung done conn ≡ false → Keeps done conn (mail_at m conn)
  pub settled : m.settled ≡ has_settled done

-- the same replies and the same reads that wait, of all connections
pub record SameMail (old new : Mailboxes) : Type 0 where
  pub replies : (conn : ℕ) → (mail_at new conn).replies ≡ (mail_at old conn).replies
  pub waits : (conn : ℕ) → (mail_at new conn).waits ≡ (mail_at old conn).waits
  pub settled : new.settled ≡ old.settled

-- room that was made for a reply stays
abbrev pub SameRoom : Mailboxes → Mailboxes → Type 0
SameRoom old new = (conn : ℕ) → has_room new conn ≡ has_room old conn

-- and so does the place that was made for a read that is to wait
abbrev pub SamePlace : Mailboxes → Mailboxes → Type 0
SamePlace old new = (conn : ℕ) → has_place new conn ≡ has_place old conn

-- nothing is kept for a connection
abbrev pub KeepsNone : Mailboxes → ℕ → Type 0
KeepsNone m conn = get nat_cmp m.boxes conn ≡ None

-- nor is anything from now on for any connection that nothing was kept for
abbrev pub StillNone : Mailboxes → Mailboxes → Type 0
StillNone old new = (conn : ℕ) → KeepsNone old conn → KeepsNone new conn

-- of the code alone: of one connection this is kept from now on, and of all others the same as before
pub record Becomes (old new : Mailboxes) (conn : ℕ) (now : Mail) : Type 0 where
  pub this : mail_at new conn ≡ now
  pub others : (other : ℕ) → (conn ≡ other → ⊥) → mail_at new other ≡ mail_at old other
