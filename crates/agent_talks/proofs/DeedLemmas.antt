-- Deeds of other kinds leave conversations, questions, the log and the lines of ends as they are.
use Rattle.std.proofs.Common.{◌≡◌, ℕ, List, [], ◌∷◌, ◌++◌, Bool, true, false, cond, sym, Option, Some, None, Result, Ok, Err}
use Rattle.std.proofs.lemmas.Bool.{false≢true}
use Rattle.file_tree.specs.declared.tree.Node.{Node}
use Rattle.file_tree.specs.declared.tree.Node.TheVariants.{Root, Factotum, Rpc, Ctl, Proto, Confirm, Needkey, Log}
use Rattle.key_lists.specs.Edits.{KeyEdit}
use Rattle.side_files.specs.declared.fault.TooSmall.{TooSmall}
use Rattle.side_files.specs.Lines.{if_handed}
use Rattle.agent_history.specs.Deeds.{Deed, ReplyDeed, OfFids, OfKeys, OfReplies, OfConnection, Swept, Attached, Walked, Opened, Listed, Browsed, Edited, Switched, Entered, fid_of, names, was_opened}
use Rattle.agent_history.specs.Conversations.{Speaker, opened_talks, speakers}
use Rattle.agent_history.specs.Histories.{entered}
use Rattle.agent_history.specs.Replies.{has_settled, swept}
use Rattle.agent_history.specs.SideFiles.{line_read}
use Rattle.agent_talks.specs.declared.held.Talks.{Talks}
use Rattle.agent_talks.specs.Speaks.{Speak, is_among, stands}
use Rattle.agent_talks.proofs.AskOtherLemmas as asking
use Rattle.agent_talks.proofs.LogLemmas.{AllHaveLines}
use Rattle.agent_talks.specs.declared.standing.Conversations.{Conversations}
use Rattle.agent_talks.specs.Logging.{Logs, SameLogs, asking_of}

-- where the conversations alone may have changed
pub same_logs : (old : Conversations) (talks : Talks) → ((done : List Deed) → Speak done old.talks → Speak done talks) → SameLogs old (record { talks = talks; calls = old.calls; files = old.files; ends = old.ends })
same_logs old talks same = λ done h. record {
  tells = record { talks = record { speak = same done h.tells.talks.speak; calls = h.tells.talks.calls }; files = h.tells.files; users = h.tells.users };
  ends = λ q there. h.ends q there;
}

-- ---- replies, connections

pub replies_logs : (done : List Deed) (t : Conversations) (conn : ℕ) (deed : ReplyDeed) → Logs done t → Logs (OfReplies conn deed ∷ done) t
replies_logs done t conn deed h = record { tells = asking.replies_tells done (asking_of t) conn deed h.tells; ends = λ q there. h.ends q there }

pub sweep_logs : (done : List Deed) (t : Conversations) → Logs done t → Logs (Swept ∷ done) t
sweep_logs done t h = record { tells = asking.sweep_tells done (asking_of t) h.tells; ends = λ q there. h.ends q there }

pub enter_logs : (done : List Deed) (t : Conversations) (conn : ℕ) → Logs done t → Logs (OfConnection conn Entered ∷ done) t
enter_logs done t conn h = record { tells = asking.enter_tells done (asking_of t) conn h.tells; ends = λ q there. h.ends q there }

-- where one of two lists of deeds is meant
either : (b : Bool) (done after : List Deed) (t : Conversations) → Logs done t → Logs after t → Logs (cond b after done) t
either true done after t h now = now
either false done after t h now = h

pub swept_logs : (done : List Deed) (t : Conversations) → Logs done t → Logs (swept done) t
swept_logs done t h = either (has_settled done) done (Swept ∷ done) t h (sweep_logs done t h)

pub entered_logs : (done : List Deed) (t : Conversations) (conn : ℕ) → Logs done t → Logs (entered conn done) t
entered_logs done t conn h = either (was_opened done conn) (OfConnection conn Entered ∷ done) done t (enter_logs done t conn h) h

-- ---- keys

pub edited_logs : (done : List Deed) (t : Conversations) (conn : ℕ) (edit : KeyEdit) → Logs done t → Logs (OfKeys conn (Edited edit) ∷ done) t
edited_logs done t conn edit h = record { tells = asking.edited_tells done (asking_of t) conn edit h.tells; ends = λ q there. h.ends q there }

-- a line on keys came before one that switches the further lines of the log
pub swapped_logs : (done : List Deed) (t : Conversations) (conn : ℕ) (edit : KeyEdit) → Logs (OfKeys conn Switched ∷ done) t → Logs (OfKeys conn Switched ∷ OfKeys conn (Edited edit) ∷ done) t
swapped_logs done t conn edit h = record { tells = asking.swapped_tells done (asking_of t) conn edit h.tells; ends = λ q there. h.ends q there }

-- and two that switch them leave them as they were
pub twice_logs : (done : List Deed) (t : Conversations) (conn : ℕ) → Logs done t → Logs (OfKeys conn Switched ∷ OfKeys conn Switched ∷ done) t
twice_logs done t conn h = record { tells = asking.twice_tells done (asking_of t) conn h.tells; ends = λ q there. h.ends q there }

-- ---- fids

pub attached_logs : (done : List Deed) (t : Conversations) (conn fid : ℕ) → Logs done t → Logs (OfFids conn (Attached fid) ∷ done) t
attached_logs done t conn fid h = record { tells = asking.attached_tells done (asking_of t) conn fid h.tells; ends = λ q there. h.ends q there }

pub walked_logs : (done : List Deed) (t : Conversations) (conn fid : ℕ) (node : Node) → Logs done t → Logs (OfFids conn (Walked fid node) ∷ done) t
walked_logs done t conn fid node h = record { tells = asking.walked_tells done (asking_of t) conn fid node h.tells; ends = λ q there. h.ends q there }

pub listed_logs : (done : List Deed) (t : Conversations) (conn fid : ℕ) → Logs done t → Logs (OfFids conn (Listed fid) ∷ done) t
listed_logs done t conn fid h = record { tells = asking.listed_tells done (asking_of t) conn fid h.tells; ends = λ q there. h.ends q there }

pub browsed_logs : (done : List Deed) (t : Conversations) (conn fid next : ℕ) → Logs done t → Logs (OfFids conn (Browsed fid next) ∷ done) t
browsed_logs done t conn fid next h = record { tells = asking.browsed_tells done (asking_of t) conn fid next h.tells; ends = λ q there. h.ends q there }

-- one that doesn't name rpc was opened
pub elsewhere_logs : (done : List Deed) (t : Conversations) (conn fid mode : ℕ) → names Rpc (fid_of done conn fid) ≡ false → Logs done t → Logs (OfFids conn (Opened fid mode) ∷ done) t
elsewhere_logs done t conn fid mode e h = record {
  tells = asking.elsewhere_tells done (asking_of t) conn fid mode e h.tells;
  ends = λ q there. h.ends q (stood (names Rpc (fid_of done conn fid)) e q there);
}
  where
    next : Speaker
    next = record { conv = opened_talks done; conn = conn; fid = fid }

    stood : (b : Bool) → b ≡ false → (q : ℕ) → is_among (cond b (speakers done ++ next ∷ []) (speakers done)) q ≡ true → stands done q ≡ true
    stood true e q there = absurd (false≢true (sym e))
    stood false e q there = there

-- ---- lines

read_ends : (node : Node) (done : List Deed) (t : Conversations) → AllHaveLines done t → AllHaveLines (line_read node done) t
read_ends Confirm done t ends = λ q there. ends q there
read_ends Needkey done t ends = λ q there. ends q there
read_ends Log done t ends = λ q there. ends q there
read_ends Root done t ends = ends
read_ends Factotum done t ends = ends
read_ends Rpc done t ends = ends
read_ends Ctl done t ends = ends
read_ends Proto done t ends = ends

-- where the lines of a file are those that are left
pub handed_ends : (result : Result (Option (List ℕ)) TooSmall) (node : Node) (done : List Deed) (t : Conversations) → AllHaveLines done t → AllHaveLines (if_handed result (line_read node done) done) t
handed_ends (Ok (Some line)) node done t ends = read_ends node done t ends
handed_ends (Ok None) node done t ends = ends
handed_ends (Err small) node done t ends = ends
