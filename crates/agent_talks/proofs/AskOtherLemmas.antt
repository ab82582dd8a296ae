-- Deeds of other kinds leave conversations, questions and the log as they are.
use Rattle.std.proofs.Common.{◌≡◌, ◌≤◌, ◌+◌, ◌==◌, eqb, subst, arith, ℕ, List, ◌∷◌, Bool, true, false, cond, not, Option, Some, None, Result, Ok, Err, refl, sym, ◌∙◌}
use Rattle.std.specs.List.{list_any}
use Rattle.std.proofs.lemmas.Bool.{false≢true}
use Rattle.file_tree.specs.declared.tree.Node.{Node}
use Rattle.file_tree.specs.declared.tree.Node.TheVariants.{Root, Factotum, Rpc, Ctl, Proto, Confirm, Needkey, Log}
use Rattle.key_lists.specs.Edits.{KeyEdit}
use Rattle.side_files.specs.Calls as side
use Rattle.side_files.specs.declared.fault.TooSmall.{TooSmall}
use Rattle.side_files.specs.declared.line.PromptKind.{PromptKind}
use Rattle.side_files.specs.declared.line.PromptKind.TheVariants as k
use Rattle.side_files.specs.Lines.{if_handed}
use Rattle.agent_history.specs.Deeds.{Deed, FidDeed, ReplyDeed, OfFids, OfKeys, OfLog, OfReplies, OfConnection, DropTaken, HandedOut, Swept, Attached, Walked, Opened, Listed, Browsed, Edited, Entered, Switched, fid_of, names, is_debug, was_opened}
use Rattle.agent_history.specs.Histories.{entered}
use Rattle.agent_history.specs.Replies.{has_settled, swept}
use Rattle.agent_history.specs.SideFiles.{askers, line_read, log_of, prompts_of}
use Rattle.agent_talks.specs.Keeps.{Converses, SameConverses}
use Rattle.agent_talks.specs.Keeps.{KeepingTalks}
use Rattle.agent_talks.proofs.OtherCalls as kept
use Rattle.agent_talks.specs.declared.files.LineFiles.{LineFiles}
use Rattle.agent_talks.specs.Files.{Files}
use Rattle.agent_talks.specs.Asking.{AskingTalks}
use Rattle.agent_talks.specs.Asking.{AllWait, SameTells, Tells, times}
use Rattle.agent_talks.proofs.StandLemmas.{same}
use Rattle.agent_talks.proofs.TimesLemmas.{times_none}
use Rattle.agent_talks.proofs.WaitLemmas.{log_wait, opened_wait, read_wait, same_wait}

-- where the conversations alone may have changed
pub same_talks : (old : AskingTalks) (talks : KeepingTalks) → SameConverses old.talks talks → SameTells old (record { talks = talks; files = old.files })
same_talks old talks same = λ done h. record { talks = same done h.talks; files = h.files; users = h.users }

-- ---- who waits

-- whoever waits first waits once
pub first_once : (done : List Deed) (t : AskingTalks) (kind : PromptKind) (conv : ℕ) (more : List ℕ) → Tells done t → askers done kind ≡ conv ∷ more → list_any (λ n. n == conv) more ≡ false
first_once done t kind conv more h e =
    let once : times conv (conv ∷ more) ≤ 1 = subst (λ (ns : List ℕ). times conv ns ≤ 1) e (h.users.once kind conv) in
    times_none more conv (one_more (eqb conv conv) (times conv more) (same conv) once)
  where
    one_more : (b : Bool) (t : ℕ) → b ≡ true → cond b (t + 1) t ≤ 1 → t ≡ 0
    one_more true t is le = omega (arith, le)
    one_more false t is le = absurd (false≢true is)

-- ---- replies, connections

pub replies_tells : (done : List Deed) (t : AskingTalks) (conn : ℕ) (deed : ReplyDeed) → Tells done t → Tells (OfReplies conn deed ∷ done) t
replies_tells done t conn deed h = record {
  talks = kept.replies_converses done t.talks conn deed h.talks;
  files = record { confirm = h.files.confirm; needkey = h.files.needkey; log = h.files.log; debug = h.files.debug };
  users = same_wait done (OfReplies conn deed ∷ done) (λ kind. refl) (λ n e. e) (λ n. refl) h.users;
}

pub sweep_tells : (done : List Deed) (t : AskingTalks) → Tells done t → Tells (Swept ∷ done) t
sweep_tells done t h = record {
  talks = kept.sweep_converses done t.talks h.talks;
  files = record { confirm = h.files.confirm; needkey = h.files.needkey; log = h.files.log; debug = h.files.debug };
  users = same_wait done (Swept ∷ done) (λ kind. refl) (λ n e. e) (λ n. refl) h.users;
}

pub enter_tells : (done : List Deed) (t : AskingTalks) (conn : ℕ) → Tells done t → Tells (OfConnection conn Entered ∷ done) t
enter_tells done t conn h = record {
  talks = kept.enter_converses done t.talks conn h.talks;
  files = record { confirm = h.files.confirm; needkey = h.files.needkey; log = h.files.log; debug = h.files.debug };
  users = same_wait done (OfConnection conn Entered ∷ done) (λ kind. refl) (λ n e. e) (λ n. refl) h.users;
}

-- where one of two lists of deeds is meant
either : (b : Bool) (done after : List Deed) (t : AskingTalks) → Tells done t → Tells after t → Tells (cond b after done) t
either true done after t h now = now
either false done after t h now = h

pub swept_tells : (done : List Deed) (t : AskingTalks) → Tells done t → Tells (swept done) t
swept_tells done t h = either (has_settled done) done (Swept ∷ done) t h (sweep_tells done t h)

pub entered_tells : (done : List Deed) (t : AskingTalks) (conn : ℕ) → Tells done t → Tells (entered conn done) t
entered_tells done t conn h = either (was_opened done conn) (OfConnection conn Entered ∷ done) done t (enter_tells done t conn h) h

-- ---- keys

pub edited_tells : (done : List Deed) (t : AskingTalks) (conn : ℕ) (edit : KeyEdit) → Tells done t → Tells (OfKeys conn (Edited edit) ∷ done) t
edited_tells done t conn edit h = record {
  talks = kept.keys_converses done t.talks conn (Edited edit) h.talks;
  files = record { confirm = h.files.confirm; needkey = h.files.needkey; log = h.files.log; debug = h.files.debug };
  users = same_wait done (OfKeys conn (Edited edit) ∷ done) (λ kind. refl) (λ n e. e) (λ n. refl) h.users;
}

-- where the further lines of the log are switched as often
keyed_tells : (one two : List Deed) (t : AskingTalks) → Converses two t.talks → AllWait two → prompts_of two k.Confirm ≡ prompts_of one k.Confirm → prompts_of two k.Needkey ≡ prompts_of one k.Needkey → log_of two ≡ log_of one → is_debug two ≡ is_debug one → Tells one t → Tells two t
keyed_tells one two t converses wait confirm needkey log debug h = record {
  talks = converses;
  files = record { confirm = h.files.confirm ∙ sym confirm; needkey = h.files.needkey ∙ sym needkey; log = h.files.log ∙ sym log; debug = h.files.debug ∙ sym debug };
  users = wait;
}

swapped_converses : (done : List Deed) (t : KeepingTalks) (conn : ℕ) (edit : KeyEdit) → Converses (OfKeys conn Switched ∷ done) t → Converses (OfKeys conn Switched ∷ OfKeys conn (Edited edit) ∷ done) t
swapped_converses done t conn edit h = record {
  speak = record {
    opened = h.speak.opened;
    speakers = h.speak.speakers;
    table = h.speak.table;
    raised = h.speak.raised;
    questions = h.speak.questions;
    fresh = h.speak.fresh;
    asked = λ q e. let o = h.speak.asked q e in record { stands = o.stands; phase = o.phase };
  };
  calls = record { kept = h.calls.kept; drops = h.calls.drops; alive = λ q e. let was = h.calls.alive q e in record { stands = was.stands; runs = was.runs } };
}

-- a line on keys came before one that switches them
pub swapped_tells : (done : List Deed) (t : AskingTalks) (conn : ℕ) (edit : KeyEdit) → Tells (OfKeys conn Switched ∷ done) t → Tells (OfKeys conn Switched ∷ OfKeys conn (Edited edit) ∷ done) t
swapped_tells done t conn edit h =
    let one : List Deed = OfKeys conn Switched ∷ done in
    let two : List Deed = OfKeys conn Switched ∷ OfKeys conn (Edited edit) ∷ done in
    keyed_tells one two t (swapped_converses done t.talks conn edit h.talks) (same_wait one two (λ kind. refl) (λ n e. e) (λ n. refl) h.users) refl refl refl refl h

-- and two that switch them leave them as they were
pub twice_tells : (done : List Deed) (t : AskingTalks) (conn : ℕ) → Tells done t → Tells (OfKeys conn Switched ∷ OfKeys conn Switched ∷ done) t
twice_tells done t conn h =
    let one : List Deed = OfKeys conn Switched ∷ done in
    let two : List Deed = OfKeys conn Switched ∷ one in
    keyed_tells done two t (kept.keys_converses one t.talks conn Switched (kept.keys_converses done t.talks conn Switched h.talks)) (same_wait done two (λ kind. refl) (λ n e. e) (λ n. refl) h.users) refl refl refl (both (is_debug done)) h
  where
    both : (b : Bool) → not (not b) ≡ b
    both true = refl
    both false = refl

-- ---- fids

fids_tells : (done : List Deed) (t : AskingTalks) (conn : ℕ) (deed : FidDeed) → Converses (OfFids conn deed ∷ done) t.talks → AllWait (OfFids conn deed ∷ done) → Tells done t → Tells (OfFids conn deed ∷ done) t
fids_tells done t conn deed converses wait h = record {
  talks = converses;
  files = record { confirm = h.files.confirm; needkey = h.files.needkey; log = h.files.log; debug = h.files.debug };
  users = wait;
}

pub attached_tells : (done : List Deed) (t : AskingTalks) (conn fid : ℕ) → Tells done t → Tells (OfFids conn (Attached fid) ∷ done) t
attached_tells done t conn fid h = fids_tells done t conn (Attached fid) (kept.attached_converses done t.talks conn fid h.talks) (same_wait done (OfFids conn (Attached fid) ∷ done) (λ kind. refl) (λ n e. e) (λ n. refl) h.users) h

pub walked_tells : (done : List Deed) (t : AskingTalks) (conn fid : ℕ) (node : Node) → Tells done t → Tells (OfFids conn (Walked fid node) ∷ done) t
walked_tells done t conn fid node h = fids_tells done t conn (Walked fid node) (kept.walked_converses done t.talks conn fid node h.talks) (same_wait done (OfFids conn (Walked fid node) ∷ done) (λ kind. refl) (λ n e. e) (λ n. refl) h.users) h

pub listed_tells : (done : List Deed) (t : AskingTalks) (conn fid : ℕ) → Tells done t → Tells (OfFids conn (Listed fid) ∷ done) t
listed_tells done t conn fid h = fids_tells done t conn (Listed fid) (kept.listed_converses done t.talks conn fid h.talks) (same_wait done (OfFids conn (Listed fid) ∷ done) (λ kind. refl) (λ n e. e) (λ n. refl) h.users) h

pub browsed_tells : (done : List Deed) (t : AskingTalks) (conn fid next : ℕ) → Tells done t → Tells (OfFids conn (Browsed fid next) ∷ done) t
browsed_tells done t conn fid next h = fids_tells done t conn (Browsed fid next) (kept.browsed_converses done t.talks conn fid next h.talks) (same_wait done (OfFids conn (Browsed fid next) ∷ done) (λ kind. refl) (λ n e. e) (λ n. refl) h.users) h

-- one that doesn't name rpc was opened
pub elsewhere_tells : (done : List Deed) (t : AskingTalks) (conn fid mode : ℕ) → names Rpc (fid_of done conn fid) ≡ false → Tells done t → Tells (OfFids conn (Opened fid mode) ∷ done) t
elsewhere_tells done t conn fid mode e h = fids_tells done t conn (Opened fid mode) (kept.elsewhere_converses done t.talks conn fid mode e h.talks) (opened_wait done conn fid mode h.users) h

-- one that does
pub opened_tells : (done : List Deed) (old : AskingTalks) (talks : KeepingTalks) (conn fid mode : ℕ) → Converses (OfFids conn (Opened fid mode) ∷ done) talks → Tells done old → Tells (OfFids conn (Opened fid mode) ∷ done) (record { talks = talks; files = old.files })
opened_tells done old talks conn fid mode converses h = record {
  talks = converses;
  files = record { confirm = h.files.confirm; needkey = h.files.needkey; log = h.files.log; debug = h.files.debug };
  users = opened_wait done conn fid mode h.users;
}

-- ---- the authentication server

pub handed_tells : (done : List Deed) (old : AskingTalks) (talks : KeepingTalks) → Converses (HandedOut ∷ done) talks → Tells done old → Tells (HandedOut ∷ done) (record { talks = talks; files = old.files })
handed_tells done old talks converses h = record {
  talks = converses;
  files = record { confirm = h.files.confirm; needkey = h.files.needkey; log = h.files.log; debug = h.files.debug };
  users = same_wait done (HandedOut ∷ done) (λ kind. refl) (λ n e. e) (λ n. refl) h.users;
}

pub taken_tells : (done : List Deed) (old : AskingTalks) (talks : KeepingTalks) → Converses (DropTaken ∷ done) talks → Tells done old → Tells (DropTaken ∷ done) (record { talks = talks; files = old.files })
taken_tells done old talks converses h = record {
  talks = converses;
  files = record { confirm = h.files.confirm; needkey = h.files.needkey; log = h.files.log; debug = h.files.debug };
  users = same_wait done (DropTaken ∷ done) (λ kind. refl) (λ n e. e) (λ n. refl) h.users;
}

-- ---- lines

pub logged_tells : (done : List Deed) (old : AskingTalks) (files : LineFiles) (call : side.LogCall) → Files (OfLog call ∷ done) files → Tells done old → Tells (OfLog call ∷ done) (record { talks = old.talks; files = files })
logged_tells done old files call lines h = record { talks = kept.log_converses done old.talks call h.talks; files = lines; users = log_wait done call h.users }

pub switched_tells : (done : List Deed) (old : AskingTalks) (files : LineFiles) (conn : ℕ) → Files (OfKeys conn Switched ∷ done) files → Tells done old → Tells (OfKeys conn Switched ∷ done) (record { talks = old.talks; files = files })
switched_tells done old files conn lines h = record {
  talks = kept.keys_converses done old.talks conn Switched h.talks;
  files = lines;
  users = same_wait done (OfKeys conn Switched ∷ done) (λ kind. refl) (λ n e. e) (λ n. refl) h.users;
}

line_tells : (node : Node) (done : List Deed) (old : AskingTalks) (files : LineFiles) → Files (line_read node done) files → Tells done old → Tells (line_read node done) (record { talks = old.talks; files = files })
line_tells Confirm done old files lines h = record { talks = kept.prompts_converses done old.talks k.Confirm side.Read h.talks; files = lines; users = read_wait done k.Confirm h.users }
line_tells Needkey done old files lines h = record { talks = kept.prompts_converses done old.talks k.Needkey side.Read h.talks; files = lines; users = read_wait done k.Needkey h.users }
line_tells Log done old files lines h = record { talks = kept.log_converses done old.talks side.Taken h.talks; files = lines; users = log_wait done side.Taken h.users }
line_tells Root done old files lines h = record { talks = h.talks; files = lines; users = h.users }
line_tells Factotum done old files lines h = record { talks = h.talks; files = lines; users = h.users }
line_tells Rpc done old files lines h = record { talks = h.talks; files = lines; users = h.users }
line_tells Ctl done old files lines h = record { talks = h.talks; files = lines; users = h.users }
line_tells Proto done old files lines h = record { talks = h.talks; files = lines; users = h.users }

pub read_tells : (result : Result (Option (List ℕ)) TooSmall) (node : Node) (done : List Deed) (old : AskingTalks) (files : LineFiles) → Files (if_handed result (line_read node done) done) files → Tells done old → Tells (if_handed result (line_read node done) done) (record { talks = old.talks; files = files })
read_tells (Ok (Some line)) node done old files lines h = line_tells node done old files lines h
read_tells (Ok None) node done old files lines h = record { talks = h.talks; files = lines; users = h.users }
read_tells (Err small) node done old files lines h = record { talks = h.talks; files = lines; users = h.users }
