-- What is read off the deeds stays when the secrets of the keys added are hidden.
use Rattle.std.proofs.Common.{◌≡◌, ℕ, List, [], ◌∷◌, ◌++◌, map, Bool, true, false, cond, eqb, ◌&&◌, ◌||◌, not, Option, Some, None, refl, sym, ap, ◌∙◌}
use Rattle.std.specs.Prelude.{find, option_map, is_some}
use Rattle.std.specs.List.{filter, list_any}
use Rattle.std.proofs.lemmas.Bool.{and_parts, not-true, or_parts}
use Rattle.file_tree.specs.declared.tree.Node.{Node}
use Rattle.file_tree.specs.declared.tree.Node.TheVariants.{Root, Factotum, Rpc, Ctl, Confirm, Needkey, Proto, Log}
use Rattle.file_tree.specs.declared.tree.FidState.{FidState}
use Rattle.file_tree.specs.Tree.{file}
use Rattle.file_tree.specs.Calls.{node_of}
use Rattle.attr_tuples.specs.Printing.{hidden}
use Rattle.key_lists.specs.Lists.{added, deleted, tells_secret}
use Rattle.key_lists.specs.Edits.{KeyEdit, Add, Delete}
use Rattle.key_lists.specs.Listing.{list_text}
use Rattle.talks.specs.Calls as calls
use Rattle.agent_history.specs.Deeds.{Deed, OfFids, OfKeys, OfReplies, OfConnection, OfTalk, Raised, HandedOut, OfPrompts, OfLog, DropTaken, Swept, Halted, Versioned, Attached, Walked, Opened, Listed, Browsed, Clunked, Edited, Switched, Answered, Awaited, Settled, Flushed, Taken, Entered, Hung, fid_of, held_by, holder_of, is_halted, keys_of, msize_of, next_of, text_of, was_hung, was_opened, names}
use Rattle.agent_history.specs.Replies.{has_settled, replies, taken, waits}
use Rattle.agent_history.specs.Conversations.{Speaker, conv_of, hand_first, of_speakers, opened_talks, questions, raised, speakers, talk, all_shut, all_withdrawn, closed, ended_by, given_up_by, stands}
use Rattle.agent_history.specs.Requests.{is_rpc}
use Rattle.agent_laws.specs.Laws.{SameButSecrets, all_open, has_conversed, hidden_deed, hidden_edit, is_open_edit}
use Rattle.agent_laws.proofs.HiddenLaws.{hidden_list, added_hidden, deleted_hidden, list_text_hidden}
use Rattle.side_files.specs.declared.line.PromptKind.{PromptKind}
use Rattle.agent_history.specs.SideFiles.{log_calls, prompt_calls, askers, file_of}
use Rattle.side_files.specs.declared.prompt.Asker.{Asker}
use Rattle.side_files.specs.declared.line.PromptKind.TheVariants as k
use Rattle.side_files.specs.Calls as side
use Rattle.side_files.specs.Questions as asked

-- ---- what is read off the deeds

keys_hidden : (done : List Deed) → all_open done ≡ true → keys_of (map hidden_deed done) ≡ hidden_list (keys_of done)
keys_hidden [] o = refl
keys_hidden (OfKeys at (Edited (Add key)) ∷ done) o = ap (added (map hidden key)) (keys_hidden done o) ∙ added_hidden key (keys_of done)
keys_hidden (OfKeys at (Edited (Delete template)) ∷ done) o =
    let parts = and_parts (not (list_any tells_secret template)) (all_open done) o in
    ap (deleted template) (keys_hidden done parts.1) ∙ deleted_hidden template (keys_of done) (not-true (list_any tells_secret template) parts.0)
keys_hidden (OfKeys at Switched ∷ done) o = keys_hidden done o
keys_hidden (OfFids at deed ∷ done) o = keys_hidden done o
keys_hidden (OfReplies at deed ∷ done) o = keys_hidden done o
keys_hidden (OfConnection at deed ∷ done) o = keys_hidden done o
keys_hidden (OfTalk talker call ∷ done) o = keys_hidden done o
keys_hidden (Raised talker ∷ done) o = keys_hidden done o
keys_hidden (HandedOut ∷ done) o = keys_hidden done o
keys_hidden (DropTaken ∷ done) o = keys_hidden done o
keys_hidden (OfPrompts about doing ∷ done) o = keys_hidden done o
keys_hidden (OfLog doing ∷ done) o = keys_hidden done o
keys_hidden (Swept ∷ done) o = keys_hidden done o
keys_hidden (Halted ∷ done) o = keys_hidden done o

shown_hidden : (done : List Deed) → all_open done ≡ true → list_text (keys_of (map hidden_deed done)) ≡ list_text (keys_of done)
shown_hidden done o = ap list_text (keys_hidden done o) ∙ list_text_hidden (keys_of done)

msize_hidden : (done : List Deed) (conn : ℕ) → msize_of (map hidden_deed done) conn ≡ msize_of done conn
msize_hidden [] conn = refl
msize_hidden (OfFids at (Versioned msize) ∷ done) conn = rw (msize_hidden done conn) refl
msize_hidden (OfFids at (Attached f) ∷ done) conn = msize_hidden done conn
msize_hidden (OfFids at (Walked f to) ∷ done) conn = msize_hidden done conn
msize_hidden (OfFids at (Opened f mode) ∷ done) conn = msize_hidden done conn
msize_hidden (OfFids at (Listed f) ∷ done) conn = msize_hidden done conn
msize_hidden (OfFids at (Browsed f place) ∷ done) conn = msize_hidden done conn
msize_hidden (OfFids at (Clunked f) ∷ done) conn = msize_hidden done conn
msize_hidden (OfKeys at (Edited edit) ∷ done) conn = msize_hidden done conn
msize_hidden (OfKeys at Switched ∷ done) conn = msize_hidden done conn
msize_hidden (OfReplies at (Answered tag body) ∷ done) conn = msize_hidden done conn
msize_hidden (OfReplies at (Awaited tag f count) ∷ done) conn = msize_hidden done conn
msize_hidden (OfReplies at (Settled tag body) ∷ done) conn = msize_hidden done conn
msize_hidden (OfReplies at (Flushed tag) ∷ done) conn = msize_hidden done conn
msize_hidden (OfReplies at Taken ∷ done) conn = msize_hidden done conn
msize_hidden (OfConnection at Entered ∷ done) conn = msize_hidden done conn
msize_hidden (OfConnection at Hung ∷ done) conn = rw (msize_hidden done conn) refl
msize_hidden (OfTalk talker call ∷ done) conn = msize_hidden done conn
msize_hidden (Raised talker ∷ done) conn = msize_hidden done conn
msize_hidden (HandedOut ∷ done) conn = msize_hidden done conn
msize_hidden (DropTaken ∷ done) conn = msize_hidden done conn
msize_hidden (OfPrompts about doing ∷ done) conn = msize_hidden done conn
msize_hidden (OfLog doing ∷ done) conn = msize_hidden done conn
msize_hidden (Swept ∷ done) conn = msize_hidden done conn
msize_hidden (Halted ∷ done) conn = refl

fid_hidden : (done : List Deed) (conn fid : ℕ) → fid_of (map hidden_deed done) conn fid ≡ fid_of done conn fid
fid_hidden [] conn fid = refl
fid_hidden (OfFids at (Versioned msize) ∷ done) conn fid = rw (fid_hidden done conn fid) refl
fid_hidden (OfFids at (Attached f) ∷ done) conn fid = rw (fid_hidden done conn fid) refl
fid_hidden (OfFids at (Walked f to) ∷ done) conn fid = rw (fid_hidden done conn fid) refl
fid_hidden (OfFids at (Opened f mode) ∷ done) conn fid = rw (fid_hidden done conn fid) refl
fid_hidden (OfFids at (Listed f) ∷ done) conn fid = fid_hidden done conn fid
fid_hidden (OfFids at (Browsed f place) ∷ done) conn fid = fid_hidden done conn fid
fid_hidden (OfFids at (Clunked f) ∷ done) conn fid = rw (fid_hidden done conn fid) refl
fid_hidden (OfKeys at (Edited edit) ∷ done) conn fid = fid_hidden done conn fid
fid_hidden (OfKeys at Switched ∷ done) conn fid = fid_hidden done conn fid
fid_hidden (OfReplies at (Answered tag body) ∷ done) conn fid = fid_hidden done conn fid
fid_hidden (OfReplies at (Awaited tag f count) ∷ done) conn fid = fid_hidden done conn fid
fid_hidden (OfReplies at (Settled tag body) ∷ done) conn fid = fid_hidden done conn fid
fid_hidden (OfReplies at (Flushed tag) ∷ done) conn fid = fid_hidden done conn fid
fid_hidden (OfReplies at Taken ∷ done) conn fid = fid_hidden done conn fid
fid_hidden (OfConnection at Entered ∷ done) conn fid = fid_hidden done conn fid
fid_hidden (OfConnection at Hung ∷ done) conn fid = rw (fid_hidden done conn fid) refl
fid_hidden (OfTalk talker call ∷ done) conn fid = fid_hidden done conn fid
fid_hidden (Raised talker ∷ done) conn fid = fid_hidden done conn fid
fid_hidden (HandedOut ∷ done) conn fid = fid_hidden done conn fid
fid_hidden (DropTaken ∷ done) conn fid = fid_hidden done conn fid
fid_hidden (OfPrompts about doing ∷ done) conn fid = fid_hidden done conn fid
fid_hidden (OfLog doing ∷ done) conn fid = fid_hidden done conn fid
fid_hidden (Swept ∷ done) conn fid = fid_hidden done conn fid
fid_hidden (Halted ∷ done) conn fid = refl

held_hidden : (done : List Deed) (conn : ℕ) → held_by (map hidden_deed done) conn ≡ held_by done conn
held_hidden [] conn = refl
held_hidden (OfFids at (Versioned msize) ∷ done) conn = rw (held_hidden done conn) refl
held_hidden (OfFids at (Attached f) ∷ done) conn = rw (held_hidden done conn, fid_hidden done conn f) refl
held_hidden (OfFids at (Walked f to) ∷ done) conn = rw (held_hidden done conn, fid_hidden done conn f) refl
held_hidden (OfFids at (Opened f mode) ∷ done) conn = held_hidden done conn
held_hidden (OfFids at (Listed f) ∷ done) conn = held_hidden done conn
held_hidden (OfFids at (Browsed f place) ∷ done) conn = held_hidden done conn
held_hidden (OfFids at (Clunked f) ∷ done) conn = rw (held_hidden done conn, fid_hidden done conn f) refl
held_hidden (OfKeys at (Edited edit) ∷ done) conn = held_hidden done conn
held_hidden (OfKeys at Switched ∷ done) conn = held_hidden done conn
held_hidden (OfReplies at (Answered tag body) ∷ done) conn = held_hidden done conn
held_hidden (OfReplies at (Awaited tag f count) ∷ done) conn = held_hidden done conn
held_hidden (OfReplies at (Settled tag body) ∷ done) conn = held_hidden done conn
held_hidden (OfReplies at (Flushed tag) ∷ done) conn = held_hidden done conn
held_hidden (OfReplies at Taken ∷ done) conn = held_hidden done conn
held_hidden (OfConnection at Entered ∷ done) conn = held_hidden done conn
held_hidden (OfConnection at Hung ∷ done) conn = rw (held_hidden done conn) refl
held_hidden (OfTalk talker call ∷ done) conn = held_hidden done conn
held_hidden (Raised talker ∷ done) conn = held_hidden done conn
held_hidden (HandedOut ∷ done) conn = held_hidden done conn
held_hidden (DropTaken ∷ done) conn = held_hidden done conn
held_hidden (OfPrompts about doing ∷ done) conn = held_hidden done conn
held_hidden (OfLog doing ∷ done) conn = held_hidden done conn
held_hidden (Swept ∷ done) conn = held_hidden done conn
held_hidden (Halted ∷ done) conn = refl

next_hidden : (done : List Deed) (conn fid : ℕ) → next_of (map hidden_deed done) conn fid ≡ next_of done conn fid
next_hidden [] conn fid = refl
next_hidden (OfFids at (Versioned msize) ∷ done) conn fid = rw (next_hidden done conn fid) refl
next_hidden (OfFids at (Attached f) ∷ done) conn fid = rw (next_hidden done conn fid) refl
next_hidden (OfFids at (Walked f to) ∷ done) conn fid = rw (next_hidden done conn fid) refl
next_hidden (OfFids at (Opened f mode) ∷ done) conn fid = rw (next_hidden done conn fid) refl
next_hidden (OfFids at (Listed f) ∷ done) conn fid = next_hidden done conn fid
next_hidden (OfFids at (Browsed f place) ∷ done) conn fid = rw (next_hidden done conn fid) refl
next_hidden (OfFids at (Clunked f) ∷ done) conn fid = rw (next_hidden done conn fid) refl
next_hidden (OfKeys at (Edited edit) ∷ done) conn fid = next_hidden done conn fid
next_hidden (OfKeys at Switched ∷ done) conn fid = next_hidden done conn fid
next_hidden (OfReplies at (Answered tag body) ∷ done) conn fid = next_hidden done conn fid
next_hidden (OfReplies at (Awaited tag f count) ∷ done) conn fid = next_hidden done conn fid
next_hidden (OfReplies at (Settled tag body) ∷ done) conn fid = next_hidden done conn fid
next_hidden (OfReplies at (Flushed tag) ∷ done) conn fid = next_hidden done conn fid
next_hidden (OfReplies at Taken ∷ done) conn fid = next_hidden done conn fid
next_hidden (OfConnection at Entered ∷ done) conn fid = next_hidden done conn fid
next_hidden (OfConnection at Hung ∷ done) conn fid = rw (next_hidden done conn fid) refl
next_hidden (OfTalk talker call ∷ done) conn fid = next_hidden done conn fid
next_hidden (Raised talker ∷ done) conn fid = next_hidden done conn fid
next_hidden (HandedOut ∷ done) conn fid = next_hidden done conn fid
next_hidden (DropTaken ∷ done) conn fid = next_hidden done conn fid
next_hidden (OfPrompts about doing ∷ done) conn fid = next_hidden done conn fid
next_hidden (OfLog doing ∷ done) conn fid = next_hidden done conn fid
next_hidden (Swept ∷ done) conn fid = next_hidden done conn fid
next_hidden (Halted ∷ done) conn fid = refl

holder_hidden : (done : List Deed) (node : Node) → holder_of (map hidden_deed done) node ≡ holder_of done node
holder_hidden [] node = refl
holder_hidden (OfFids at (Versioned msize) ∷ done) node = rw (holder_hidden done node) refl
holder_hidden (OfFids at (Attached f) ∷ done) node = holder_hidden done node
holder_hidden (OfFids at (Walked f to) ∷ done) node = holder_hidden done node
holder_hidden (OfFids at (Opened f mode) ∷ done) node = rw (fid_hidden done at f, holder_hidden done node) refl
holder_hidden (OfFids at (Listed f) ∷ done) node = holder_hidden done node
holder_hidden (OfFids at (Browsed f place) ∷ done) node = holder_hidden done node
holder_hidden (OfFids at (Clunked f) ∷ done) node = rw (holder_hidden done node) refl
holder_hidden (OfKeys at (Edited edit) ∷ done) node = holder_hidden done node
holder_hidden (OfKeys at Switched ∷ done) node = holder_hidden done node
holder_hidden (OfReplies at (Answered tag body) ∷ done) node = holder_hidden done node
holder_hidden (OfReplies at (Awaited tag f count) ∷ done) node = holder_hidden done node
holder_hidden (OfReplies at (Settled tag body) ∷ done) node = holder_hidden done node
holder_hidden (OfReplies at (Flushed tag) ∷ done) node = holder_hidden done node
holder_hidden (OfReplies at Taken ∷ done) node = holder_hidden done node
holder_hidden (OfConnection at Entered ∷ done) node = holder_hidden done node
holder_hidden (OfConnection at Hung ∷ done) node = rw (holder_hidden done node) refl
holder_hidden (OfTalk talker call ∷ done) node = holder_hidden done node
holder_hidden (Raised talker ∷ done) node = holder_hidden done node
holder_hidden (HandedOut ∷ done) node = holder_hidden done node
holder_hidden (DropTaken ∷ done) node = holder_hidden done node
holder_hidden (OfPrompts about doing ∷ done) node = holder_hidden done node
holder_hidden (OfLog doing ∷ done) node = holder_hidden done node
holder_hidden (Swept ∷ done) node = holder_hidden done node
holder_hidden (Halted ∷ done) node = refl

waits_hidden : (done : List Deed) (conn : ℕ) → waits (map hidden_deed done) conn ≡ waits done conn
waits_hidden [] conn = refl
waits_hidden (OfFids at (Versioned msize) ∷ done) conn = rw (waits_hidden done conn) refl
waits_hidden (OfFids at (Attached f) ∷ done) conn = waits_hidden done conn
waits_hidden (OfFids at (Walked f to) ∷ done) conn = waits_hidden done conn
waits_hidden (OfFids at (Opened f mode) ∷ done) conn = waits_hidden done conn
waits_hidden (OfFids at (Listed f) ∷ done) conn = waits_hidden done conn
waits_hidden (OfFids at (Browsed f place) ∷ done) conn = waits_hidden done conn
waits_hidden (OfFids at (Clunked f) ∷ done) conn = rw (waits_hidden done conn) refl
waits_hidden (OfKeys at (Edited edit) ∷ done) conn = waits_hidden done conn
waits_hidden (OfKeys at Switched ∷ done) conn = waits_hidden done conn
waits_hidden (OfReplies at (Answered tag body) ∷ done) conn = waits_hidden done conn
waits_hidden (OfReplies at (Awaited tag f count) ∷ done) conn = rw (waits_hidden done conn) refl
waits_hidden (OfReplies at (Settled tag body) ∷ done) conn = rw (waits_hidden done conn) refl
waits_hidden (OfReplies at (Flushed tag) ∷ done) conn = rw (waits_hidden done conn) refl
waits_hidden (OfReplies at Taken ∷ done) conn = waits_hidden done conn
waits_hidden (OfConnection at Entered ∷ done) conn = waits_hidden done conn
waits_hidden (OfConnection at Hung ∷ done) conn = rw (waits_hidden done conn) refl
waits_hidden (OfTalk talker call ∷ done) conn = waits_hidden done conn
waits_hidden (Raised talker ∷ done) conn = waits_hidden done conn
waits_hidden (HandedOut ∷ done) conn = waits_hidden done conn
waits_hidden (DropTaken ∷ done) conn = waits_hidden done conn
waits_hidden (OfPrompts about doing ∷ done) conn = waits_hidden done conn
waits_hidden (OfLog doing ∷ done) conn = waits_hidden done conn
waits_hidden (Swept ∷ done) conn = rw (waits_hidden done conn) refl
waits_hidden (Halted ∷ done) conn = refl

settled_hidden : (done : List Deed) → has_settled (map hidden_deed done) ≡ has_settled done
settled_hidden [] = refl
settled_hidden (OfFids at (Versioned msize) ∷ done) = settled_hidden done
settled_hidden (OfFids at (Attached f) ∷ done) = settled_hidden done
settled_hidden (OfFids at (Walked f to) ∷ done) = settled_hidden done
settled_hidden (OfFids at (Opened f mode) ∷ done) = settled_hidden done
settled_hidden (OfFids at (Listed f) ∷ done) = settled_hidden done
settled_hidden (OfFids at (Browsed f place) ∷ done) = settled_hidden done
settled_hidden (OfFids at (Clunked f) ∷ done) = rw (settled_hidden done, waits_hidden done at) refl
settled_hidden (OfKeys at (Edited edit) ∷ done) = settled_hidden done
settled_hidden (OfKeys at Switched ∷ done) = settled_hidden done
settled_hidden (OfReplies at (Answered tag body) ∷ done) = settled_hidden done
settled_hidden (OfReplies at (Awaited tag f count) ∷ done) = settled_hidden done
settled_hidden (OfReplies at (Settled tag body) ∷ done) = rw (settled_hidden done, waits_hidden done at) refl
settled_hidden (OfReplies at (Flushed tag) ∷ done) = settled_hidden done
settled_hidden (OfReplies at Taken ∷ done) = settled_hidden done
settled_hidden (OfConnection at Entered ∷ done) = settled_hidden done
settled_hidden (OfConnection at Hung ∷ done) = settled_hidden done
settled_hidden (OfTalk talker call ∷ done) = settled_hidden done
settled_hidden (Raised talker ∷ done) = settled_hidden done
settled_hidden (HandedOut ∷ done) = settled_hidden done
settled_hidden (DropTaken ∷ done) = settled_hidden done
settled_hidden (OfPrompts about doing ∷ done) = settled_hidden done
settled_hidden (OfLog doing ∷ done) = settled_hidden done
settled_hidden (Swept ∷ done) = refl
settled_hidden (Halted ∷ done) = refl

replies_hidden : (done : List Deed) (conn : ℕ) → replies (map hidden_deed done) conn ≡ replies done conn
replies_hidden [] conn = refl
replies_hidden (OfFids at (Versioned msize) ∷ done) conn = replies_hidden done conn
replies_hidden (OfFids at (Attached f) ∷ done) conn = replies_hidden done conn
replies_hidden (OfFids at (Walked f to) ∷ done) conn = replies_hidden done conn
replies_hidden (OfFids at (Opened f mode) ∷ done) conn = replies_hidden done conn
replies_hidden (OfFids at (Listed f) ∷ done) conn = replies_hidden done conn
replies_hidden (OfFids at (Browsed f place) ∷ done) conn = replies_hidden done conn
replies_hidden (OfFids at (Clunked f) ∷ done) conn = replies_hidden done conn
replies_hidden (OfKeys at (Edited edit) ∷ done) conn = replies_hidden done conn
replies_hidden (OfKeys at Switched ∷ done) conn = replies_hidden done conn
replies_hidden (OfReplies at (Answered tag body) ∷ done) conn = rw (replies_hidden done conn) refl
replies_hidden (OfReplies at (Awaited tag f count) ∷ done) conn = replies_hidden done conn
replies_hidden (OfReplies at (Settled tag body) ∷ done) conn = replies_hidden done conn
replies_hidden (OfReplies at (Flushed tag) ∷ done) conn = replies_hidden done conn
replies_hidden (OfReplies at Taken ∷ done) conn = replies_hidden done conn
replies_hidden (OfConnection at Entered ∷ done) conn = replies_hidden done conn
replies_hidden (OfConnection at Hung ∷ done) conn = replies_hidden done conn
replies_hidden (OfTalk talker call ∷ done) conn = replies_hidden done conn
replies_hidden (Raised talker ∷ done) conn = replies_hidden done conn
replies_hidden (HandedOut ∷ done) conn = replies_hidden done conn
replies_hidden (DropTaken ∷ done) conn = replies_hidden done conn
replies_hidden (OfPrompts about doing ∷ done) conn = replies_hidden done conn
replies_hidden (OfLog doing ∷ done) conn = replies_hidden done conn
replies_hidden (Swept ∷ done) conn = rw (replies_hidden done conn, waits_hidden done conn) refl
replies_hidden (Halted ∷ done) conn = replies_hidden done conn

taken_hidden : (done : List Deed) (conn : ℕ) → taken (map hidden_deed done) conn ≡ taken done conn
taken_hidden [] conn = refl
taken_hidden (OfFids at (Versioned msize) ∷ done) conn = taken_hidden done conn
taken_hidden (OfFids at (Attached f) ∷ done) conn = taken_hidden done conn
taken_hidden (OfFids at (Walked f to) ∷ done) conn = taken_hidden done conn
taken_hidden (OfFids at (Opened f mode) ∷ done) conn = taken_hidden done conn
taken_hidden (OfFids at (Listed f) ∷ done) conn = taken_hidden done conn
taken_hidden (OfFids at (Browsed f place) ∷ done) conn = taken_hidden done conn
taken_hidden (OfFids at (Clunked f) ∷ done) conn = taken_hidden done conn
taken_hidden (OfKeys at (Edited edit) ∷ done) conn = taken_hidden done conn
taken_hidden (OfKeys at Switched ∷ done) conn = taken_hidden done conn
taken_hidden (OfReplies at (Answered tag body) ∷ done) conn = taken_hidden done conn
taken_hidden (OfReplies at (Awaited tag f count) ∷ done) conn = taken_hidden done conn
taken_hidden (OfReplies at (Settled tag body) ∷ done) conn = taken_hidden done conn
taken_hidden (OfReplies at (Flushed tag) ∷ done) conn = taken_hidden done conn
taken_hidden (OfReplies at Taken ∷ done) conn = rw (taken_hidden done conn, replies_hidden done conn) refl
taken_hidden (OfConnection at Entered ∷ done) conn = taken_hidden done conn
taken_hidden (OfConnection at Hung ∷ done) conn = taken_hidden done conn
taken_hidden (OfTalk talker call ∷ done) conn = taken_hidden done conn
taken_hidden (Raised talker ∷ done) conn = taken_hidden done conn
taken_hidden (HandedOut ∷ done) conn = taken_hidden done conn
taken_hidden (DropTaken ∷ done) conn = taken_hidden done conn
taken_hidden (OfPrompts about doing ∷ done) conn = taken_hidden done conn
taken_hidden (OfLog doing ∷ done) conn = taken_hidden done conn
taken_hidden (Swept ∷ done) conn = taken_hidden done conn
taken_hidden (Halted ∷ done) conn = taken_hidden done conn

opened_hidden : (done : List Deed) (conn : ℕ) → was_opened (map hidden_deed done) conn ≡ was_opened done conn
opened_hidden [] conn = refl
opened_hidden (OfFids at (Versioned msize) ∷ done) conn = opened_hidden done conn
opened_hidden (OfFids at (Attached f) ∷ done) conn = opened_hidden done conn
opened_hidden (OfFids at (Walked f to) ∷ done) conn = opened_hidden done conn
opened_hidden (OfFids at (Opened f mode) ∷ done) conn = opened_hidden done conn
opened_hidden (OfFids at (Listed f) ∷ done) conn = opened_hidden done conn
opened_hidden (OfFids at (Browsed f place) ∷ done) conn = opened_hidden done conn
opened_hidden (OfFids at (Clunked f) ∷ done) conn = opened_hidden done conn
opened_hidden (OfKeys at (Edited edit) ∷ done) conn = opened_hidden done conn
opened_hidden (OfKeys at Switched ∷ done) conn = opened_hidden done conn
opened_hidden (OfReplies at (Answered tag body) ∷ done) conn = opened_hidden done conn
opened_hidden (OfReplies at (Awaited tag f count) ∷ done) conn = opened_hidden done conn
opened_hidden (OfReplies at (Settled tag body) ∷ done) conn = opened_hidden done conn
opened_hidden (OfReplies at (Flushed tag) ∷ done) conn = opened_hidden done conn
opened_hidden (OfReplies at Taken ∷ done) conn = opened_hidden done conn
opened_hidden (OfConnection at Entered ∷ done) conn = rw (opened_hidden done conn) refl
opened_hidden (OfConnection at Hung ∷ done) conn = opened_hidden done conn
opened_hidden (OfTalk talker call ∷ done) conn = opened_hidden done conn
opened_hidden (Raised talker ∷ done) conn = opened_hidden done conn
opened_hidden (HandedOut ∷ done) conn = opened_hidden done conn
opened_hidden (DropTaken ∷ done) conn = opened_hidden done conn
opened_hidden (OfPrompts about doing ∷ done) conn = opened_hidden done conn
opened_hidden (OfLog doing ∷ done) conn = opened_hidden done conn
opened_hidden (Swept ∷ done) conn = opened_hidden done conn
opened_hidden (Halted ∷ done) conn = opened_hidden done conn

hung_hidden : (done : List Deed) (conn : ℕ) → was_hung (map hidden_deed done) conn ≡ was_hung done conn
hung_hidden [] conn = refl
hung_hidden (OfFids at (Versioned msize) ∷ done) conn = hung_hidden done conn
hung_hidden (OfFids at (Attached f) ∷ done) conn = hung_hidden done conn
hung_hidden (OfFids at (Walked f to) ∷ done) conn = hung_hidden done conn
hung_hidden (OfFids at (Opened f mode) ∷ done) conn = hung_hidden done conn
hung_hidden (OfFids at (Listed f) ∷ done) conn = hung_hidden done conn
hung_hidden (OfFids at (Browsed f place) ∷ done) conn = hung_hidden done conn
hung_hidden (OfFids at (Clunked f) ∷ done) conn = hung_hidden done conn
hung_hidden (OfKeys at (Edited edit) ∷ done) conn = hung_hidden done conn
hung_hidden (OfKeys at Switched ∷ done) conn = hung_hidden done conn
hung_hidden (OfReplies at (Answered tag body) ∷ done) conn = hung_hidden done conn
hung_hidden (OfReplies at (Awaited tag f count) ∷ done) conn = hung_hidden done conn
hung_hidden (OfReplies at (Settled tag body) ∷ done) conn = hung_hidden done conn
hung_hidden (OfReplies at (Flushed tag) ∷ done) conn = hung_hidden done conn
hung_hidden (OfReplies at Taken ∷ done) conn = hung_hidden done conn
hung_hidden (OfConnection at Entered ∷ done) conn = hung_hidden done conn
hung_hidden (OfConnection at Hung ∷ done) conn = rw (hung_hidden done conn) refl
hung_hidden (OfTalk talker call ∷ done) conn = hung_hidden done conn
hung_hidden (Raised talker ∷ done) conn = hung_hidden done conn
hung_hidden (HandedOut ∷ done) conn = hung_hidden done conn
hung_hidden (DropTaken ∷ done) conn = hung_hidden done conn
hung_hidden (OfPrompts about doing ∷ done) conn = hung_hidden done conn
hung_hidden (OfLog doing ∷ done) conn = hung_hidden done conn
hung_hidden (Swept ∷ done) conn = hung_hidden done conn
hung_hidden (Halted ∷ done) conn = hung_hidden done conn

halted_hidden : (done : List Deed) → is_halted (map hidden_deed done) ≡ is_halted done
halted_hidden [] = refl
halted_hidden (OfFids at (Versioned msize) ∷ done) = halted_hidden done
halted_hidden (OfFids at (Attached f) ∷ done) = halted_hidden done
halted_hidden (OfFids at (Walked f to) ∷ done) = halted_hidden done
halted_hidden (OfFids at (Opened f mode) ∷ done) = halted_hidden done
halted_hidden (OfFids at (Listed f) ∷ done) = halted_hidden done
halted_hidden (OfFids at (Browsed f place) ∷ done) = halted_hidden done
halted_hidden (OfFids at (Clunked f) ∷ done) = halted_hidden done
halted_hidden (OfKeys at (Edited edit) ∷ done) = halted_hidden done
halted_hidden (OfKeys at Switched ∷ done) = halted_hidden done
halted_hidden (OfReplies at (Answered tag body) ∷ done) = halted_hidden done
halted_hidden (OfReplies at (Awaited tag f count) ∷ done) = halted_hidden done
halted_hidden (OfReplies at (Settled tag body) ∷ done) = halted_hidden done
halted_hidden (OfReplies at (Flushed tag) ∷ done) = halted_hidden done
halted_hidden (OfReplies at Taken ∷ done) = halted_hidden done
halted_hidden (OfConnection at Entered ∷ done) = halted_hidden done
halted_hidden (OfConnection at Hung ∷ done) = halted_hidden done
halted_hidden (OfTalk talker call ∷ done) = halted_hidden done
halted_hidden (Raised talker ∷ done) = halted_hidden done
halted_hidden (HandedOut ∷ done) = halted_hidden done
halted_hidden (DropTaken ∷ done) = halted_hidden done
halted_hidden (OfPrompts about doing ∷ done) = halted_hidden done
halted_hidden (OfLog doing ∷ done) = halted_hidden done
halted_hidden (Swept ∷ done) = halted_hidden done
halted_hidden (Halted ∷ done) = refl

text_hidden : (done : List Deed) → all_open done ≡ true → (conn fid : ℕ) → text_of (map hidden_deed done) conn fid ≡ text_of done conn fid
text_hidden [] o conn fid = refl
text_hidden (OfFids at (Versioned msize) ∷ done) o conn fid = rw (text_hidden done o conn fid) refl
text_hidden (OfFids at (Attached f) ∷ done) o conn fid = rw (text_hidden done o conn fid) refl
text_hidden (OfFids at (Walked f to) ∷ done) o conn fid = rw (text_hidden done o conn fid) refl
text_hidden (OfFids at (Opened f mode) ∷ done) o conn fid = text_hidden done o conn fid
text_hidden (OfFids at (Listed f) ∷ done) o conn fid = rw (shown_hidden done o, text_hidden done o conn fid) refl
text_hidden (OfFids at (Browsed f place) ∷ done) o conn fid = text_hidden done o conn fid
text_hidden (OfFids at (Clunked f) ∷ done) o conn fid = rw (text_hidden done o conn fid) refl
text_hidden (OfKeys at (Edited edit) ∷ done) o conn fid = text_hidden done (and_parts (is_open_edit edit) (all_open done) o).1 conn fid
text_hidden (OfKeys at Switched ∷ done) o conn fid = text_hidden done o conn fid
text_hidden (OfReplies at (Answered tag body) ∷ done) o conn fid = text_hidden done o conn fid
text_hidden (OfReplies at (Awaited tag f count) ∷ done) o conn fid = text_hidden done o conn fid
text_hidden (OfReplies at (Settled tag body) ∷ done) o conn fid = text_hidden done o conn fid
text_hidden (OfReplies at (Flushed tag) ∷ done) o conn fid = text_hidden done o conn fid
text_hidden (OfReplies at Taken ∷ done) o conn fid = text_hidden done o conn fid
text_hidden (OfConnection at Entered ∷ done) o conn fid = text_hidden done o conn fid
text_hidden (OfConnection at Hung ∷ done) o conn fid = rw (text_hidden done o conn fid) refl
text_hidden (OfTalk talker call ∷ done) o conn fid = text_hidden done o conn fid
text_hidden (Raised talker ∷ done) o conn fid = text_hidden done o conn fid
text_hidden (HandedOut ∷ done) o conn fid = text_hidden done o conn fid
text_hidden (DropTaken ∷ done) o conn fid = text_hidden done o conn fid
text_hidden (OfPrompts about doing ∷ done) o conn fid = text_hidden done o conn fid
text_hidden (OfLog doing ∷ done) o conn fid = text_hidden done o conn fid
text_hidden (Swept ∷ done) o conn fid = text_hidden done o conn fid
text_hidden (Halted ∷ done) o conn fid = refl

opened_talks_hidden : (done : List Deed) → opened_talks (map hidden_deed done) ≡ opened_talks done
opened_talks_hidden [] = refl
opened_talks_hidden (OfFids at (Versioned msize) ∷ done) = opened_talks_hidden done
opened_talks_hidden (OfFids at (Attached f) ∷ done) = opened_talks_hidden done
opened_talks_hidden (OfFids at (Walked f to) ∷ done) = opened_talks_hidden done
opened_talks_hidden (OfFids at (Opened f mode) ∷ done) = rw (fid_hidden done at f, opened_talks_hidden done) refl
opened_talks_hidden (OfFids at (Listed f) ∷ done) = opened_talks_hidden done
opened_talks_hidden (OfFids at (Browsed f place) ∷ done) = opened_talks_hidden done
opened_talks_hidden (OfFids at (Clunked f) ∷ done) = opened_talks_hidden done
opened_talks_hidden (OfKeys at (Edited edit) ∷ done) = opened_talks_hidden done
opened_talks_hidden (OfKeys at Switched ∷ done) = opened_talks_hidden done
opened_talks_hidden (OfReplies at (Answered tag body) ∷ done) = opened_talks_hidden done
opened_talks_hidden (OfReplies at (Awaited tag f count) ∷ done) = opened_talks_hidden done
opened_talks_hidden (OfReplies at (Settled tag body) ∷ done) = opened_talks_hidden done
opened_talks_hidden (OfReplies at (Flushed tag) ∷ done) = opened_talks_hidden done
opened_talks_hidden (OfReplies at Taken ∷ done) = opened_talks_hidden done
opened_talks_hidden (OfConnection at Entered ∷ done) = opened_talks_hidden done
opened_talks_hidden (OfConnection at Hung ∷ done) = opened_talks_hidden done
opened_talks_hidden (OfTalk talker call ∷ done) = opened_talks_hidden done
opened_talks_hidden (Raised talker ∷ done) = opened_talks_hidden done
opened_talks_hidden (HandedOut ∷ done) = opened_talks_hidden done
opened_talks_hidden (DropTaken ∷ done) = opened_talks_hidden done
opened_talks_hidden (OfPrompts about doing ∷ done) = opened_talks_hidden done
opened_talks_hidden (OfLog doing ∷ done) = opened_talks_hidden done
opened_talks_hidden (Swept ∷ done) = opened_talks_hidden done
opened_talks_hidden (Halted ∷ done) = opened_talks_hidden done

pub speakers_hidden : (done : List Deed) → speakers (map hidden_deed done) ≡ speakers done
speakers_hidden [] = refl
speakers_hidden (OfFids at (Versioned msize) ∷ done) = rw (speakers_hidden done) refl
speakers_hidden (OfFids at (Attached f) ∷ done) = speakers_hidden done
speakers_hidden (OfFids at (Walked f to) ∷ done) = speakers_hidden done
speakers_hidden (OfFids at (Opened f mode) ∷ done) = rw (fid_hidden done at f, opened_talks_hidden done, speakers_hidden done) refl
speakers_hidden (OfFids at (Listed f) ∷ done) = speakers_hidden done
speakers_hidden (OfFids at (Browsed f place) ∷ done) = speakers_hidden done
speakers_hidden (OfFids at (Clunked f) ∷ done) = rw (speakers_hidden done) refl
speakers_hidden (OfKeys at (Edited edit) ∷ done) = speakers_hidden done
speakers_hidden (OfKeys at Switched ∷ done) = speakers_hidden done
speakers_hidden (OfReplies at (Answered tag body) ∷ done) = speakers_hidden done
speakers_hidden (OfReplies at (Awaited tag f count) ∷ done) = speakers_hidden done
speakers_hidden (OfReplies at (Settled tag body) ∷ done) = speakers_hidden done
speakers_hidden (OfReplies at (Flushed tag) ∷ done) = speakers_hidden done
speakers_hidden (OfReplies at Taken ∷ done) = speakers_hidden done
speakers_hidden (OfConnection at Entered ∷ done) = speakers_hidden done
speakers_hidden (OfConnection at Hung ∷ done) = rw (speakers_hidden done) refl
speakers_hidden (OfTalk talker call ∷ done) = speakers_hidden done
speakers_hidden (Raised talker ∷ done) = speakers_hidden done
speakers_hidden (HandedOut ∷ done) = speakers_hidden done
speakers_hidden (DropTaken ∷ done) = speakers_hidden done
speakers_hidden (OfPrompts about doing ∷ done) = speakers_hidden done
speakers_hidden (OfLog doing ∷ done) = speakers_hidden done
speakers_hidden (Swept ∷ done) = speakers_hidden done
speakers_hidden (Halted ∷ done) = refl

pub talk_hidden : (done : List Deed) (conv : ℕ) → talk (map hidden_deed done) conv ≡ talk done conv
talk_hidden [] conv = refl
talk_hidden (OfFids at (Versioned msize) ∷ done) conv = talk_hidden done conv
talk_hidden (OfFids at (Attached f) ∷ done) conv = talk_hidden done conv
talk_hidden (OfFids at (Walked f to) ∷ done) conv = talk_hidden done conv
talk_hidden (OfFids at (Opened f mode) ∷ done) conv = talk_hidden done conv
talk_hidden (OfFids at (Listed f) ∷ done) conv = talk_hidden done conv
talk_hidden (OfFids at (Browsed f place) ∷ done) conv = talk_hidden done conv
talk_hidden (OfFids at (Clunked f) ∷ done) conv = talk_hidden done conv
talk_hidden (OfKeys at (Edited edit) ∷ done) conv = talk_hidden done conv
talk_hidden (OfKeys at Switched ∷ done) conv = talk_hidden done conv
talk_hidden (OfReplies at (Answered tag body) ∷ done) conv = talk_hidden done conv
talk_hidden (OfReplies at (Awaited tag f count) ∷ done) conv = talk_hidden done conv
talk_hidden (OfReplies at (Settled tag body) ∷ done) conv = talk_hidden done conv
talk_hidden (OfReplies at (Flushed tag) ∷ done) conv = talk_hidden done conv
talk_hidden (OfReplies at Taken ∷ done) conv = talk_hidden done conv
talk_hidden (OfConnection at Entered ∷ done) conv = talk_hidden done conv
talk_hidden (OfConnection at Hung ∷ done) conv = talk_hidden done conv
talk_hidden (OfTalk talker call ∷ done) conv = rw (talk_hidden done conv) refl
talk_hidden (Raised talker ∷ done) conv = talk_hidden done conv
talk_hidden (HandedOut ∷ done) conv = talk_hidden done conv
talk_hidden (DropTaken ∷ done) conv = talk_hidden done conv
talk_hidden (OfPrompts about doing ∷ done) conv = talk_hidden done conv
talk_hidden (OfLog doing ∷ done) conv = talk_hidden done conv
talk_hidden (Swept ∷ done) conv = talk_hidden done conv
talk_hidden (Halted ∷ done) conv = talk_hidden done conv

pub raised_hidden : (done : List Deed) → raised (map hidden_deed done) ≡ raised done
raised_hidden [] = refl
raised_hidden (OfFids at (Versioned msize) ∷ done) = raised_hidden done
raised_hidden (OfFids at (Attached f) ∷ done) = raised_hidden done
raised_hidden (OfFids at (Walked f to) ∷ done) = raised_hidden done
raised_hidden (OfFids at (Opened f mode) ∷ done) = raised_hidden done
raised_hidden (OfFids at (Listed f) ∷ done) = raised_hidden done
raised_hidden (OfFids at (Browsed f place) ∷ done) = raised_hidden done
raised_hidden (OfFids at (Clunked f) ∷ done) = raised_hidden done
raised_hidden (OfKeys at (Edited edit) ∷ done) = raised_hidden done
raised_hidden (OfKeys at Switched ∷ done) = raised_hidden done
raised_hidden (OfReplies at (Answered tag body) ∷ done) = raised_hidden done
raised_hidden (OfReplies at (Awaited tag f count) ∷ done) = raised_hidden done
raised_hidden (OfReplies at (Settled tag body) ∷ done) = raised_hidden done
raised_hidden (OfReplies at (Flushed tag) ∷ done) = raised_hidden done
raised_hidden (OfReplies at Taken ∷ done) = raised_hidden done
raised_hidden (OfConnection at Entered ∷ done) = raised_hidden done
raised_hidden (OfConnection at Hung ∷ done) = raised_hidden done
raised_hidden (OfTalk talker call ∷ done) = raised_hidden done
raised_hidden (Raised talker ∷ done) = rw (raised_hidden done) refl
raised_hidden (HandedOut ∷ done) = raised_hidden done
raised_hidden (DropTaken ∷ done) = raised_hidden done
raised_hidden (OfPrompts about doing ∷ done) = raised_hidden done
raised_hidden (OfLog doing ∷ done) = raised_hidden done
raised_hidden (Swept ∷ done) = raised_hidden done
raised_hidden (Halted ∷ done) = raised_hidden done

-- what was done with questions to users, and with the log
pub prompts_hidden : (done : List Deed) (of : PromptKind) → prompt_calls (map hidden_deed done) of ≡ prompt_calls done of
prompts_hidden [] of = refl
prompts_hidden (OfFids at (Versioned msize) ∷ done) of = prompts_hidden done of
prompts_hidden (OfFids at (Attached f) ∷ done) of = prompts_hidden done of
prompts_hidden (OfFids at (Walked f to) ∷ done) of = prompts_hidden done of
prompts_hidden (OfFids at (Opened f mode) ∷ done) of = prompts_hidden done of
prompts_hidden (OfFids at (Listed f) ∷ done) of = prompts_hidden done of
prompts_hidden (OfFids at (Browsed f place) ∷ done) of = prompts_hidden done of
prompts_hidden (OfFids at (Clunked f) ∷ done) of = prompts_hidden done of
prompts_hidden (OfKeys at (Edited edit) ∷ done) of = prompts_hidden done of
prompts_hidden (OfKeys at Switched ∷ done) of = prompts_hidden done of
prompts_hidden (OfReplies at (Answered tag body) ∷ done) of = prompts_hidden done of
prompts_hidden (OfReplies at (Awaited tag f count) ∷ done) of = prompts_hidden done of
prompts_hidden (OfReplies at (Settled tag body) ∷ done) of = prompts_hidden done of
prompts_hidden (OfReplies at (Flushed tag) ∷ done) of = prompts_hidden done of
prompts_hidden (OfReplies at Taken ∷ done) of = prompts_hidden done of
prompts_hidden (OfConnection at Entered ∷ done) of = prompts_hidden done of
prompts_hidden (OfConnection at Hung ∷ done) of = prompts_hidden done of
prompts_hidden (OfTalk talker call ∷ done) of = prompts_hidden done of
prompts_hidden (Raised talker ∷ done) of = prompts_hidden done of
prompts_hidden (HandedOut ∷ done) of = prompts_hidden done of
prompts_hidden (DropTaken ∷ done) of = prompts_hidden done of
prompts_hidden (OfPrompts about doing ∷ done) of = rw (prompts_hidden done of) refl
prompts_hidden (OfLog doing ∷ done) of = prompts_hidden done of
prompts_hidden (Swept ∷ done) of = prompts_hidden done of
prompts_hidden (Halted ∷ done) of = refl

pub log_hidden : (done : List Deed) → log_calls (map hidden_deed done) ≡ log_calls done
log_hidden [] = refl
log_hidden (OfFids at (Versioned msize) ∷ done) = log_hidden done
log_hidden (OfFids at (Attached f) ∷ done) = log_hidden done
log_hidden (OfFids at (Walked f to) ∷ done) = log_hidden done
log_hidden (OfFids at (Opened f mode) ∷ done) = log_hidden done
log_hidden (OfFids at (Listed f) ∷ done) = log_hidden done
log_hidden (OfFids at (Browsed f place) ∷ done) = log_hidden done
log_hidden (OfFids at (Clunked f) ∷ done) = log_hidden done
log_hidden (OfKeys at (Edited edit) ∷ done) = log_hidden done
log_hidden (OfKeys at Switched ∷ done) = log_hidden done
log_hidden (OfReplies at (Answered tag body) ∷ done) = log_hidden done
log_hidden (OfReplies at (Awaited tag f count) ∷ done) = log_hidden done
log_hidden (OfReplies at (Settled tag body) ∷ done) = log_hidden done
log_hidden (OfReplies at (Flushed tag) ∷ done) = log_hidden done
log_hidden (OfReplies at Taken ∷ done) = log_hidden done
log_hidden (OfConnection at Entered ∷ done) = log_hidden done
log_hidden (OfConnection at Hung ∷ done) = log_hidden done
log_hidden (OfTalk talker call ∷ done) = log_hidden done
log_hidden (Raised talker ∷ done) = log_hidden done
log_hidden (HandedOut ∷ done) = log_hidden done
log_hidden (DropTaken ∷ done) = log_hidden done
log_hidden (OfPrompts about doing ∷ done) = log_hidden done
log_hidden (OfLog doing ∷ done) = rw (log_hidden done) refl
log_hidden (Swept ∷ done) = log_hidden done
log_hidden (Halted ∷ done) = refl

-- the questions of the conversations that stand
left_hidden : (deed : Deed) (done : List Deed) → speakers (deed ∷ map hidden_deed done) ≡ speakers (deed ∷ done) → questions (map hidden_deed done) ≡ questions done
    → of_speakers (speakers (deed ∷ map hidden_deed done)) (questions (map hidden_deed done)) ≡ of_speakers (speakers (deed ∷ done)) (questions done)
left_hidden deed done e f = ap (λ (standing : List Speaker). of_speakers standing (questions (map hidden_deed done))) e ∙ ap (of_speakers (speakers (deed ∷ done))) f

met_hidden : (conv : ℕ) (call : calls.Call) (done : List Deed) → questions (map hidden_deed done) ≡ questions done → questions (OfTalk conv call ∷ map hidden_deed done) ≡ questions (OfTalk conv call ∷ done)
met_hidden conv (calls.Heard bytes) done e = rw e refl
met_hidden conv calls.Unheard done e = rw e refl
met_hidden conv calls.Roomless done e = rw e refl
met_hidden conv (calls.Stored request) done e = e
met_hidden conv (calls.CarriedOut word) done e = e
met_hidden conv (calls.Sought found) done e = e
met_hidden conv (calls.Consented agrees) done e = e
met_hidden conv calls.KeyTold done e = e
met_hidden conv calls.Shut done e = e
met_hidden conv calls.Took done e = e

pub questions_hidden : (done : List Deed) → questions (map hidden_deed done) ≡ questions done
questions_hidden [] = refl
questions_hidden (OfFids at deed ∷ done) = left_hidden (OfFids at deed) done (speakers_hidden (OfFids at deed ∷ done)) (questions_hidden done)
questions_hidden (OfConnection at deed ∷ done) = left_hidden (OfConnection at deed) done (speakers_hidden (OfConnection at deed ∷ done)) (questions_hidden done)
questions_hidden (OfKeys at (Edited edit) ∷ done) = questions_hidden done
questions_hidden (OfKeys at Switched ∷ done) = questions_hidden done
questions_hidden (OfReplies at deed ∷ done) = questions_hidden done
questions_hidden (OfTalk talker call ∷ done) = met_hidden talker call done (questions_hidden done)
questions_hidden (Raised talker ∷ done) = rw (questions_hidden done, raised_hidden done) refl
questions_hidden (HandedOut ∷ done) = ap hand_first (questions_hidden done)
questions_hidden (DropTaken ∷ done) = questions_hidden done
questions_hidden (OfPrompts about doing ∷ done) = questions_hidden done
questions_hidden (OfLog doing ∷ done) = questions_hidden done
questions_hidden (Swept ∷ done) = questions_hidden done
questions_hidden (Halted ∷ done) = refl

conversed_hidden : (done : List Deed) → has_conversed (map hidden_deed done) ≡ has_conversed done
conversed_hidden [] = refl
conversed_hidden (OfFids at (Versioned msize) ∷ done) = conversed_hidden done
conversed_hidden (OfFids at (Attached f) ∷ done) = conversed_hidden done
conversed_hidden (OfFids at (Walked f to) ∷ done) = conversed_hidden done
conversed_hidden (OfFids at (Opened f mode) ∷ done) = rw (fid_hidden done at f, conversed_hidden done) refl
conversed_hidden (OfFids at (Listed f) ∷ done) = conversed_hidden done
conversed_hidden (OfFids at (Browsed f place) ∷ done) = conversed_hidden done
conversed_hidden (OfFids at (Clunked f) ∷ done) = conversed_hidden done
conversed_hidden (OfKeys at (Edited edit) ∷ done) = conversed_hidden done
conversed_hidden (OfKeys at Switched ∷ done) = conversed_hidden done
conversed_hidden (OfReplies at (Answered tag body) ∷ done) = conversed_hidden done
conversed_hidden (OfReplies at (Awaited tag f count) ∷ done) = conversed_hidden done
conversed_hidden (OfReplies at (Settled tag body) ∷ done) = conversed_hidden done
conversed_hidden (OfReplies at (Flushed tag) ∷ done) = conversed_hidden done
conversed_hidden (OfReplies at Taken ∷ done) = conversed_hidden done
conversed_hidden (OfConnection at Entered ∷ done) = conversed_hidden done
conversed_hidden (OfConnection at Hung ∷ done) = conversed_hidden done
conversed_hidden (OfTalk talker call ∷ done) = conversed_hidden done
conversed_hidden (Raised talker ∷ done) = conversed_hidden done
conversed_hidden (HandedOut ∷ done) = conversed_hidden done
conversed_hidden (DropTaken ∷ done) = conversed_hidden done
conversed_hidden (OfPrompts about doing ∷ done) = refl
conversed_hidden (OfLog doing ∷ done) = conversed_hidden done
conversed_hidden (Swept ∷ done) = conversed_hidden done
conversed_hidden (Halted ∷ done) = conversed_hidden done

-- ---- where no conversation was opened none stands

named_is_rpc : (node : Node) → is_rpc node ≡ false → eqb (file node).path (file Rpc).path ≡ false
named_is_rpc Rpc e = absurd cc
named_is_rpc Root e = refl
named_is_rpc Factotum e = refl
named_is_rpc Ctl e = refl
named_is_rpc Confirm e = refl
named_is_rpc Needkey e = refl
named_is_rpc Proto e = refl
named_is_rpc Log e = refl

not_named : (o : Option FidState) → is_rpc (node_of o) ≡ false → names Rpc o ≡ false
not_named None e = refl
not_named (Some state) e = named_is_rpc state.node e

opens_none : (o : Option FidState) (more : List Speaker) (s : Speaker) (c : Bool) → (is_rpc (node_of o) || c) ≡ false → (c ≡ false → more ≡ []) → cond (names Rpc o) (more ++ s ∷ []) more ≡ []
opens_none o more s c e f = let parts = or_parts (is_rpc (node_of o)) c e in rw (not_named o parts.0) (f parts.1)

pub none_speaks : (done : List Deed) → has_conversed done ≡ false → speakers done ≡ []
none_speaks [] e = refl
none_speaks (OfFids at (Versioned msize) ∷ done) e = ap (filter (λ (s : Speaker). not (eqb s.conn at))) (none_speaks done e)
none_speaks (OfFids at (Attached f) ∷ done) e = none_speaks done e
none_speaks (OfFids at (Walked f to) ∷ done) e = none_speaks done e
none_speaks (OfFids at (Opened f mode) ∷ done) e = opens_none (fid_of done at f) (speakers done) (record { conv = opened_talks done; conn = at; fid = f }) (has_conversed done) e (none_speaks done)
none_speaks (OfFids at (Listed f) ∷ done) e = none_speaks done e
none_speaks (OfFids at (Browsed f place) ∷ done) e = none_speaks done e
none_speaks (OfFids at (Clunked f) ∷ done) e = ap (filter (λ (s : Speaker). not (eqb s.conn at && eqb s.fid f))) (none_speaks done e)
none_speaks (OfKeys at (Edited edit) ∷ done) e = none_speaks done e
none_speaks (OfKeys at Switched ∷ done) e = none_speaks done e
none_speaks (OfReplies at (Answered tag body) ∷ done) e = none_speaks done e
none_speaks (OfReplies at (Awaited tag f count) ∷ done) e = none_speaks done e
none_speaks (OfReplies at (Settled tag body) ∷ done) e = none_speaks done e
none_speaks (OfReplies at (Flushed tag) ∷ done) e = none_speaks done e
none_speaks (OfReplies at Taken ∷ done) e = none_speaks done e
none_speaks (OfConnection at Entered ∷ done) e = none_speaks done e
none_speaks (OfConnection at Hung ∷ done) e = ap (filter (λ (s : Speaker). not (eqb s.conn at))) (none_speaks done e)
none_speaks (OfTalk talker call ∷ done) e = none_speaks done e
none_speaks (Raised talker ∷ done) e = none_speaks done e
none_speaks (HandedOut ∷ done) e = none_speaks done e
none_speaks (DropTaken ∷ done) e = none_speaks done e
none_speaks (OfPrompts about doing ∷ done) e = absurd cc
none_speaks (OfLog doing ∷ done) e = none_speaks done e
none_speaks (Swept ∷ done) e = none_speaks done e
none_speaks (Halted ∷ done) e = refl

-- and nobody was asked anything
pub none_asked : (done : List Deed) → has_conversed done ≡ false → (of : PromptKind) → prompt_calls done of ≡ []
none_asked [] e of = refl
none_asked (OfFids at (Versioned msize) ∷ done) e of = none_asked done e of
none_asked (OfFids at (Attached f) ∷ done) e of = none_asked done e of
none_asked (OfFids at (Walked f to) ∷ done) e of = none_asked done e of
none_asked (OfFids at (Opened f mode) ∷ done) e of = none_asked done (or_parts (is_rpc (node_of (fid_of done at f))) (has_conversed done) e).1 of
none_asked (OfFids at (Listed f) ∷ done) e of = none_asked done e of
none_asked (OfFids at (Browsed f place) ∷ done) e of = none_asked done e of
none_asked (OfFids at (Clunked f) ∷ done) e of = none_asked done e of
none_asked (OfKeys at (Edited edit) ∷ done) e of = none_asked done e of
none_asked (OfKeys at Switched ∷ done) e of = none_asked done e of
none_asked (OfReplies at (Answered tag body) ∷ done) e of = none_asked done e of
none_asked (OfReplies at (Awaited tag f count) ∷ done) e of = none_asked done e of
none_asked (OfReplies at (Settled tag body) ∷ done) e of = none_asked done e of
none_asked (OfReplies at (Flushed tag) ∷ done) e of = none_asked done e of
none_asked (OfReplies at Taken ∷ done) e of = none_asked done e of
none_asked (OfConnection at Entered ∷ done) e of = none_asked done e of
none_asked (OfConnection at Hung ∷ done) e of = none_asked done e of
none_asked (OfTalk talker call ∷ done) e of = none_asked done e of
none_asked (Raised talker ∷ done) e of = none_asked done e of
none_asked (HandedOut ∷ done) e of = none_asked done e of
none_asked (DropTaken ∷ done) e of = none_asked done e of
none_asked (OfPrompts about doing ∷ done) e of = absurd cc
none_asked (OfLog doing ∷ done) e of = none_asked done e of
none_asked (Swept ∷ done) e of = none_asked done e of
none_asked (Halted ∷ done) e of = refl

-- nor has a fid one open
pub none_open : (done : List Deed) → has_conversed done ≡ false → (conn fid : ℕ) → conv_of done conn fid ≡ None
none_open done e conn fid = ap (λ (standing : List Speaker). option_map (λ s. s.conv) (find (λ s. eqb s.conn conn && eqb s.fid fid) standing)) (none_speaks done e)

-- so nothing else ends with fids that are given up
nobody_shut : (kind : PromptKind) (done : List Deed) → askers done kind ≡ [] → closed kind done ≡ done
nobody_shut kind done e = by_cases (is_some (holder_of done (file_of kind)))
  where
    by_cases : (b : Bool) → cond b done (all_shut kind (askers done kind) done) ≡ done
    by_cases true = refl
    by_cases false = ap (λ (convs : List ℕ). all_shut kind convs done) e

no_askers : (done : List Deed) (kind : PromptKind) → prompt_calls done kind ≡ [] → askers done kind ≡ []
no_askers done kind e = ap (λ (cs : List side.Call). map (λ (a : Asker). a.conv) (asked.standing (side.after kind cs))) e

pub quiet_ends : (deed : Deed) (done : List Deed) → has_conversed done ≡ false → ((kind : PromptKind) → prompt_calls (deed ∷ done) kind ≡ prompt_calls done kind) → given_up_by deed done ≡ deed ∷ done
quiet_ends deed done e same =
    let none : ended_by deed done ≡ [] = ap (λ (ss : List Speaker). map (λ (s : Speaker). s.conv) (filter (λ (s : Speaker). not (stands (deed ∷ done) s.conv)) ss)) (none_speaks done e) in
    let off = λ (kind : PromptKind). no_askers (deed ∷ done) kind (same kind ∙ none_asked done e kind) in
    ap (λ (leaving : List ℕ). closed k.Needkey (closed k.Confirm (deed ∷ all_withdrawn leaving done))) none
    ∙ ap (closed k.Needkey) (nobody_shut k.Confirm (deed ∷ done) (off k.Confirm))
    ∙ nobody_shut k.Needkey (deed ∷ done) (off k.Needkey)

-- ---- two lists of deeds that are the same but for secrets

open_step : (edit : KeyEdit) (x y : Bool) → x ≡ y → (is_open_edit (hidden_edit edit) && x) ≡ (is_open_edit edit && y)
open_step (Add key) x y e = e
open_step (Delete template) x y e = ap (λ (b : Bool). not (list_any tells_secret template) && b) e

open_hidden : (done : List Deed) → all_open (map hidden_deed done) ≡ all_open done
open_hidden [] = refl
open_hidden (OfKeys at (Edited edit) ∷ done) = open_step edit (all_open (map hidden_deed done)) (all_open done) (open_hidden done)
open_hidden (OfKeys at Switched ∷ done) = open_hidden done
open_hidden (OfFids at deed ∷ done) = open_hidden done
open_hidden (OfReplies at deed ∷ done) = open_hidden done
open_hidden (OfConnection at deed ∷ done) = open_hidden done
open_hidden (OfTalk talker call ∷ done) = open_hidden done
open_hidden (Raised talker ∷ done) = open_hidden done
open_hidden (HandedOut ∷ done) = open_hidden done
open_hidden (DropTaken ∷ done) = open_hidden done
open_hidden (OfPrompts about doing ∷ done) = open_hidden done
open_hidden (OfLog doing ∷ done) = open_hidden done
open_hidden (Swept ∷ done) = open_hidden done
open_hidden (Halted ∷ done) = open_hidden done

-- what stays when secrets are hidden is the same for both
open_too : (a b : List Deed) → SameButSecrets a b → all_open b ≡ true
open_too a b s = sym (open_hidden b) ∙ ap all_open (sym s.alike) ∙ open_hidden a ∙ s.open_deletes

pub alike : {X : Type 0} (f : List Deed → X) → ((done : List Deed) → all_open done ≡ true → f (map hidden_deed done) ≡ f done) → (a b : List Deed) → SameButSecrets a b → f a ≡ f b
alike f h a b s = sym (h a s.open_deletes) ∙ ap f s.alike ∙ h b (open_too a b s)

-- all that is asked of the deeds is the same, and so are the keys but for their secrets
pub record SameSight (a b : List Deed) : Type 0 where
  pub msizes : (conn : ℕ) → msize_of a conn ≡ msize_of b conn
  pub fids : (conn fid : ℕ) → fid_of a conn fid ≡ fid_of b conn fid
  pub counts : (conn : ℕ) → held_by a conn ≡ held_by b conn
  pub nexts : (conn fid : ℕ) → next_of a conn fid ≡ next_of b conn fid
  pub holders : (node : Node) → holder_of a node ≡ holder_of b node
  pub texts : (conn fid : ℕ) → text_of a conn fid ≡ text_of b conn fid
  pub shown : list_text (keys_of a) ≡ list_text (keys_of b)
  pub keys : hidden_list (keys_of a) ≡ hidden_list (keys_of b)
  pub waiting : (conn : ℕ) → waits a conn ≡ waits b conn
  pub settled : has_settled a ≡ has_settled b
  pub answers : (conn : ℕ) → replies a conn ≡ replies b conn
  pub took : (conn : ℕ) → taken a conn ≡ taken b conn
  pub opened : (conn : ℕ) → was_opened a conn ≡ was_opened b conn
  pub hung : (conn : ℕ) → was_hung a conn ≡ was_hung b conn
  pub halted : is_halted a ≡ is_halted b
  pub speaking : speakers a ≡ speakers b
  pub asking : questions a ≡ questions b
  pub talking : (conv : ℕ) → talk a conv ≡ talk b conv
  pub conversed : has_conversed a ≡ has_conversed b
  pub prompting : (of : PromptKind) → prompt_calls a of ≡ prompt_calls b of
  pub logging : log_calls a ≡ log_calls b

pub sight : (a b : List Deed) → SameButSecrets a b → SameSight a b
sight a b s = record {
  msizes = λ conn. alike (λ done. msize_of done conn) (λ done o. msize_hidden done conn) a b s;
  fids = λ conn fid. alike (λ done. fid_of done conn fid) (λ done o. fid_hidden done conn fid) a b s;
  counts = λ conn. alike (λ done. held_by done conn) (λ done o. held_hidden done conn) a b s;
  nexts = λ conn fid. alike (λ done. next_of done conn fid) (λ done o. next_hidden done conn fid) a b s;
  holders = λ node. alike (λ done. holder_of done node) (λ done o. holder_hidden done node) a b s;
  texts = λ conn fid. alike (λ done. text_of done conn fid) (λ done o. text_hidden done o conn fid) a b s;
  shown = alike (λ done. list_text (keys_of done)) shown_hidden a b s;
  keys = sym (keys_hidden a s.open_deletes) ∙ ap keys_of s.alike ∙ keys_hidden b (open_too a b s);
  waiting = λ conn. alike (λ done. waits done conn) (λ done o. waits_hidden done conn) a b s;
  settled = alike has_settled (λ done o. settled_hidden done) a b s;
  answers = λ conn. alike (λ done. replies done conn) (λ done o. replies_hidden done conn) a b s;
  took = λ conn. alike (λ done. taken done conn) (λ done o. taken_hidden done conn) a b s;
  opened = λ conn. alike (λ done. was_opened done conn) (λ done o. opened_hidden done conn) a b s;
  hung = λ conn. alike (λ done. was_hung done conn) (λ done o. hung_hidden done conn) a b s;
  halted = alike is_halted (λ done o. halted_hidden done) a b s;
  speaking = alike speakers (λ done o. speakers_hidden done) a b s;
  asking = alike questions (λ done o. questions_hidden done) a b s;
  talking = λ conv. alike (λ done. talk done conv) (λ done o. talk_hidden done conv) a b s;
  conversed = alike has_conversed (λ done o. conversed_hidden done) a b s;
  prompting = λ of. alike (λ done. prompt_calls done of) (λ done o. prompts_hidden done of) a b s;
  logging = alike log_calls (λ done o. log_hidden done) a b s;
}
