-- Deeds that are none of a conversation leave the conversations and their questions as they are.
use Rattle.std.proofs.Common.{◌≡◌, ℕ, List, [], ◌∷◌, Bool, true, false, cond, refl, sym, ◌∙◌}
use Rattle.file_tree.specs.declared.tree.Node.{Node}
use Rattle.file_tree.specs.declared.tree.Node.TheVariants.{Rpc}
use Rattle.key_lists.specs.CtlLines.{CtlLine}
use Rattle.side_files.specs.Calls as side
use Rattle.side_files.specs.declared.line.PromptKind.{PromptKind}
use Rattle.agent_history.specs.Deeds.{Deed, KeyDeed, ReplyDeed, OfFids, OfKeys, OfReplies, OfConnection, OfPrompts, OfLog, DropTaken, Swept, Attached, Walked, Opened, Listed, Browsed, Entered, fid_of, names, was_opened}
use Rattle.agent_history.specs.Conversations.{questions, speakers}
use Rattle.agent_history.specs.Histories.{entered}
use Rattle.agent_history.specs.Replies.{has_settled, swept}
use Rattle.agent_history.specs.Requests.{line_deed, lines_done}
use Rattle.agent_talks.specs.declared.held.Talks.{Talks}
use Rattle.agent_talks.specs.Speaks.{Speak, is_among}
use Rattle.agent_talks.proofs.StandLemmas.{all_stay, left_asks}
use Rattle.agent_talks.proofs.SpeakLemmas.{fids_speak}

-- ---- replies, keys, connections

pub replies_speak : (done : List Deed) (t : Talks) (conn : ℕ) (deed : ReplyDeed) → Speak done t → Speak (OfReplies conn deed ∷ done) t
replies_speak done t conn deed h = record {
  opened = h.opened;
  speakers = h.speakers;
  table = h.table;
  raised = h.raised;
  questions = h.questions;
  fresh = h.fresh;
  asked = λ q e. record { stands = (h.asked q e).stands; phase = (h.asked q e).phase };
}

pub keys_speak : (done : List Deed) (t : Talks) (conn : ℕ) (deed : KeyDeed) → Speak done t → Speak (OfKeys conn deed ∷ done) t
keys_speak done t conn deed h = record {
  opened = h.opened;
  speakers = h.speakers;
  table = h.table;
  raised = h.raised;
  questions = h.questions;
  fresh = h.fresh;
  asked = λ q e. record { stands = (h.asked q e).stands; phase = (h.asked q e).phase };
}

-- questions to users, and the log
pub prompts_speak : (done : List Deed) (t : Talks) (kind : PromptKind) (call : side.Call) → Speak done t → Speak (OfPrompts kind call ∷ done) t
prompts_speak done t kind call h = record {
  opened = h.opened;
  speakers = h.speakers;
  table = h.table;
  raised = h.raised;
  questions = h.questions;
  fresh = h.fresh;
  asked = λ q e. record { stands = (h.asked q e).stands; phase = (h.asked q e).phase };
}

pub log_speak : (done : List Deed) (t : Talks) (call : side.LogCall) → Speak done t → Speak (OfLog call ∷ done) t
log_speak done t call h = record {
  opened = h.opened;
  speakers = h.speakers;
  table = h.table;
  raised = h.raised;
  questions = h.questions;
  fresh = h.fresh;
  asked = λ q e. record { stands = (h.asked q e).stands; phase = (h.asked q e).phase };
}

-- the lines of a write of ctl
pub lines_speak : (lines : List CtlLine) (done : List Deed) (t : Talks) (conn : ℕ) → Speak done t → Speak (lines_done conn lines done) t
lines_speak [] done t conn h = h
lines_speak (said ∷ more) done t conn h = lines_speak more (OfKeys conn (line_deed said) ∷ done) t conn (keys_speak done t conn (line_deed said) h)

pub sweep_speak : (done : List Deed) (t : Talks) → Speak done t → Speak (Swept ∷ done) t
sweep_speak done t h = record {
  opened = h.opened;
  speakers = h.speakers;
  table = h.table;
  raised = h.raised;
  questions = h.questions;
  fresh = h.fresh;
  asked = λ q e. record { stands = (h.asked q e).stands; phase = (h.asked q e).phase };
}

-- a connection that a conversation kept was given up
pub drop_speak : (done : List Deed) (t : Talks) → Speak done t → Speak (DropTaken ∷ done) t
drop_speak done t h = record {
  opened = h.opened;
  speakers = h.speakers;
  table = h.table;
  raised = h.raised;
  questions = h.questions;
  fresh = h.fresh;
  asked = λ q e. record { stands = (h.asked q e).stands; phase = (h.asked q e).phase };
}

pub enter_speak : (done : List Deed) (t : Talks) (conn : ℕ) → Speak done t → Speak (OfConnection conn Entered ∷ done) t
enter_speak done t conn h = record {
  opened = h.opened;
  speakers = h.speakers;
  table = h.table;
  raised = h.raised;
  questions = h.questions ∙ sym (all_stay (is_among (speakers done)) (questions done) (λ n e. (h.asked n e).stands));
  fresh = h.fresh;
  asked = λ q e. let were = left_asks (is_among (speakers done)) (questions done) q e in record { stands = were.0; phase = (h.asked q were.1).phase };
}

-- where one of two lists of deeds is meant
either_speak : (b : Bool) (done after : List Deed) (t : Talks) → Speak done t → Speak after t → Speak (cond b after done) t
either_speak true done after t h k = k
either_speak false done after t h k = h

pub swept_speak : (done : List Deed) (t : Talks) → Speak done t → Speak (swept done) t
swept_speak done t h = either_speak (has_settled done) done (Swept ∷ done) t h (sweep_speak done t h)

pub entered_speak : (done : List Deed) (t : Talks) (conn : ℕ) → Speak done t → Speak (entered conn done) t
entered_speak done t conn h = either_speak (was_opened done conn) (OfConnection conn Entered ∷ done) done t (enter_speak done t conn h) h

-- ---- fids

pub attached_speak : (done : List Deed) (t : Talks) (conn fid : ℕ) → Speak done t → Speak (OfFids conn (Attached fid) ∷ done) t
attached_speak done t conn fid h = fids_speak done t conn (Attached fid) refl refl h

pub walked_speak : (done : List Deed) (t : Talks) (conn fid : ℕ) (node : Node) → Speak done t → Speak (OfFids conn (Walked fid node) ∷ done) t
walked_speak done t conn fid node h = fids_speak done t conn (Walked fid node) refl refl h

pub listed_speak : (done : List Deed) (t : Talks) (conn fid : ℕ) → Speak done t → Speak (OfFids conn (Listed fid) ∷ done) t
listed_speak done t conn fid h = fids_speak done t conn (Listed fid) refl refl h

pub browsed_speak : (done : List Deed) (t : Talks) (conn fid next : ℕ) → Speak done t → Speak (OfFids conn (Browsed fid next) ∷ done) t
browsed_speak done t conn fid next h = fids_speak done t conn (Browsed fid next) refl refl h

-- one that doesn't name rpc was opened
pub elsewhere_speak : (done : List Deed) (t : Talks) (conn fid mode : ℕ) → names Rpc (fid_of done conn fid) ≡ false → Speak done t → Speak (OfFids conn (Opened fid mode) ∷ done) t
elsewhere_speak done t conn fid mode e h = fids_speak done t conn (Opened fid mode) (rw e refl) (rw e refl) h
