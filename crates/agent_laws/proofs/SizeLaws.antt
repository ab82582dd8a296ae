-- What is read off the deeds stays whatever the sizes of the reads of rpc are that wait.
use Rattle.agent_laws.proofs.PublicLaws.{bare}
use Rattle.agent_history.specs.Conversations.{opened_talks, speakers, talk}
use Rattle.agent_history.specs.Deeds.{Answered, Attached, Awaited, Browsed, Clunked, Deed, DropTaken, Edited, Entered, Flushed, Halted, HandedOut, Hung, Listed, OfConnection, OfFids, OfKeys, OfLog, OfPrompts, OfReplies, OfTalk, Opened, Raised, Settled, Swept, Switched, Taken, Versioned, Walked, edits_of, fid_of, held_by, holder_of, is_debug, is_halted, msize_of, next_of, text_of, was_hung, was_opened}
use Rattle.agent_history.specs.Replies.{Wait, fid_given_up, has_settled, is_unsettled, settle_fid, settle_tag, settled_by, waits, waits_for, waits_under}
use Rattle.agent_history.specs.Requests.{is_rpc}
use Rattle.agent_history.specs.SideFiles.{log_calls, prompt_calls}
use Rattle.agent_laws.specs.Laws.{all_open, unsized}
use Rattle.file_tree.specs.Calls.{node_of}
use Rattle.file_tree.specs.declared.tree.Node.{Node}
use Rattle.nine.specs.declared.message.RBody.{RBody}
use Rattle.side_files.specs.declared.line.PromptKind.{PromptKind}
use Rattle.std.proofs.Common.{Bool, List, None, [], ap, cond, eqb, false, inl, inr, map, not, refl, sym, true, ℕ, ◌++◌, ◌||◌, ◌∙◌, ◌∷◌, ◌≡◌}
use Rattle.std.proofs.lemmas.Bool.{cases_Bool}
use Rattle.std.proofs.lemmas.List.{map-append}
use Rattle.std.specs.List.{filter, list_any}

pub msize_unsized : (done : List Deed) (conn : ℕ) → msize_of (unsized done) conn ≡ msize_of done conn
msize_unsized [] conn = refl
msize_unsized (OfFids at (Versioned msize) ∷ done) conn = rw (msize_unsized done conn) refl
msize_unsized (OfFids at (Attached f) ∷ done) conn = msize_unsized done conn
msize_unsized (OfFids at (Walked f to) ∷ done) conn = msize_unsized done conn
msize_unsized (OfFids at (Opened f mode) ∷ done) conn = msize_unsized done conn
msize_unsized (OfFids at (Listed f) ∷ done) conn = msize_unsized done conn
msize_unsized (OfFids at (Browsed f place) ∷ done) conn = msize_unsized done conn
msize_unsized (OfFids at (Clunked f) ∷ done) conn = msize_unsized done conn
msize_unsized (OfKeys at (Edited edit) ∷ done) conn = msize_unsized done conn
msize_unsized (OfKeys at Switched ∷ done) conn = msize_unsized done conn
msize_unsized (OfReplies at (Answered tag body) ∷ done) conn = msize_unsized done conn
msize_unsized (OfReplies at (Awaited tag f count) ∷ done) conn = msize_unsized done conn
msize_unsized (OfReplies at (Settled tag body) ∷ done) conn = msize_unsized done conn
msize_unsized (OfReplies at (Flushed tag) ∷ done) conn = msize_unsized done conn
msize_unsized (OfReplies at Taken ∷ done) conn = msize_unsized done conn
msize_unsized (OfConnection at Entered ∷ done) conn = msize_unsized done conn
msize_unsized (OfConnection at Hung ∷ done) conn = rw (msize_unsized done conn) refl
msize_unsized (OfTalk talker call ∷ done) conn = msize_unsized done conn
msize_unsized (Raised talker ∷ done) conn = msize_unsized done conn
msize_unsized (HandedOut ∷ done) conn = msize_unsized done conn
msize_unsized (DropTaken ∷ done) conn = msize_unsized done conn
msize_unsized (OfPrompts about doing ∷ done) conn = msize_unsized done conn
msize_unsized (OfLog doing ∷ done) conn = msize_unsized done conn
msize_unsized (Swept ∷ done) conn = msize_unsized done conn
msize_unsized (Halted ∷ done) conn = refl

pub fid_unsized : (done : List Deed) (conn fid : ℕ) → fid_of (unsized done) conn fid ≡ fid_of done conn fid
fid_unsized [] conn fid = refl
fid_unsized (OfFids at (Versioned msize) ∷ done) conn fid = rw (fid_unsized done conn fid) refl
fid_unsized (OfFids at (Attached f) ∷ done) conn fid = rw (fid_unsized done conn fid) refl
fid_unsized (OfFids at (Walked f to) ∷ done) conn fid = rw (fid_unsized done conn fid) refl
fid_unsized (OfFids at (Opened f mode) ∷ done) conn fid = rw (fid_unsized done conn fid) refl
fid_unsized (OfFids at (Listed f) ∷ done) conn fid = fid_unsized done conn fid
fid_unsized (OfFids at (Browsed f place) ∷ done) conn fid = fid_unsized done conn fid
fid_unsized (OfFids at (Clunked f) ∷ done) conn fid = rw (fid_unsized done conn fid) refl
fid_unsized (OfKeys at (Edited edit) ∷ done) conn fid = fid_unsized done conn fid
fid_unsized (OfKeys at Switched ∷ done) conn fid = fid_unsized done conn fid
fid_unsized (OfReplies at (Answered tag body) ∷ done) conn fid = fid_unsized done conn fid
fid_unsized (OfReplies at (Awaited tag f count) ∷ done) conn fid = fid_unsized done conn fid
fid_unsized (OfReplies at (Settled tag body) ∷ done) conn fid = fid_unsized done conn fid
fid_unsized (OfReplies at (Flushed tag) ∷ done) conn fid = fid_unsized done conn fid
fid_unsized (OfReplies at Taken ∷ done) conn fid = fid_unsized done conn fid
fid_unsized (OfConnection at Entered ∷ done) conn fid = fid_unsized done conn fid
fid_unsized (OfConnection at Hung ∷ done) conn fid = rw (fid_unsized done conn fid) refl
fid_unsized (OfTalk talker call ∷ done) conn fid = fid_unsized done conn fid
fid_unsized (Raised talker ∷ done) conn fid = fid_unsized done conn fid
fid_unsized (HandedOut ∷ done) conn fid = fid_unsized done conn fid
fid_unsized (DropTaken ∷ done) conn fid = fid_unsized done conn fid
fid_unsized (OfPrompts about doing ∷ done) conn fid = fid_unsized done conn fid
fid_unsized (OfLog doing ∷ done) conn fid = fid_unsized done conn fid
fid_unsized (Swept ∷ done) conn fid = fid_unsized done conn fid
fid_unsized (Halted ∷ done) conn fid = refl

pub next_unsized : (done : List Deed) (conn fid : ℕ) → next_of (unsized done) conn fid ≡ next_of done conn fid
next_unsized [] conn fid = refl
next_unsized (OfFids at (Versioned msize) ∷ done) conn fid = rw (next_unsized done conn fid) refl
next_unsized (OfFids at (Attached f) ∷ done) conn fid = rw (next_unsized done conn fid) refl
next_unsized (OfFids at (Walked f to) ∷ done) conn fid = rw (next_unsized done conn fid) refl
next_unsized (OfFids at (Opened f mode) ∷ done) conn fid = rw (next_unsized done conn fid) refl
next_unsized (OfFids at (Listed f) ∷ done) conn fid = next_unsized done conn fid
next_unsized (OfFids at (Browsed f place) ∷ done) conn fid = rw (next_unsized done conn fid) refl
next_unsized (OfFids at (Clunked f) ∷ done) conn fid = rw (next_unsized done conn fid) refl
next_unsized (OfKeys at (Edited edit) ∷ done) conn fid = next_unsized done conn fid
next_unsized (OfKeys at Switched ∷ done) conn fid = next_unsized done conn fid
next_unsized (OfReplies at (Answered tag body) ∷ done) conn fid = next_unsized done conn fid
next_unsized (OfReplies at (Awaited tag f count) ∷ done) conn fid = next_unsized done conn fid
next_unsized (OfReplies at (Settled tag body) ∷ done) conn fid = next_unsized done conn fid
next_unsized (OfReplies at (Flushed tag) ∷ done) conn fid = next_unsized done conn fid
next_unsized (OfReplies at Taken ∷ done) conn fid = next_unsized done conn fid
next_unsized (OfConnection at Entered ∷ done) conn fid = next_unsized done conn fid
next_unsized (OfConnection at Hung ∷ done) conn fid = rw (next_unsized done conn fid) refl
next_unsized (OfTalk talker call ∷ done) conn fid = next_unsized done conn fid
next_unsized (Raised talker ∷ done) conn fid = next_unsized done conn fid
next_unsized (HandedOut ∷ done) conn fid = next_unsized done conn fid
next_unsized (DropTaken ∷ done) conn fid = next_unsized done conn fid
next_unsized (OfPrompts about doing ∷ done) conn fid = next_unsized done conn fid
next_unsized (OfLog doing ∷ done) conn fid = next_unsized done conn fid
next_unsized (Swept ∷ done) conn fid = next_unsized done conn fid
next_unsized (Halted ∷ done) conn fid = refl

pub holder_unsized : (done : List Deed) (node : Node) → holder_of (unsized done) node ≡ holder_of done node
holder_unsized [] node = refl
holder_unsized (OfFids at (Versioned msize) ∷ done) node = rw (holder_unsized done node) refl
holder_unsized (OfFids at (Attached f) ∷ done) node = holder_unsized done node
holder_unsized (OfFids at (Walked f to) ∷ done) node = holder_unsized done node
holder_unsized (OfFids at (Opened f mode) ∷ done) node = rw (fid_unsized done at f, holder_unsized done node) refl
holder_unsized (OfFids at (Listed f) ∷ done) node = holder_unsized done node
holder_unsized (OfFids at (Browsed f place) ∷ done) node = holder_unsized done node
holder_unsized (OfFids at (Clunked f) ∷ done) node = rw (holder_unsized done node) refl
holder_unsized (OfKeys at (Edited edit) ∷ done) node = holder_unsized done node
holder_unsized (OfKeys at Switched ∷ done) node = holder_unsized done node
holder_unsized (OfReplies at (Answered tag body) ∷ done) node = holder_unsized done node
holder_unsized (OfReplies at (Awaited tag f count) ∷ done) node = holder_unsized done node
holder_unsized (OfReplies at (Settled tag body) ∷ done) node = holder_unsized done node
holder_unsized (OfReplies at (Flushed tag) ∷ done) node = holder_unsized done node
holder_unsized (OfReplies at Taken ∷ done) node = holder_unsized done node
holder_unsized (OfConnection at Entered ∷ done) node = holder_unsized done node
holder_unsized (OfConnection at Hung ∷ done) node = rw (holder_unsized done node) refl
holder_unsized (OfTalk talker call ∷ done) node = holder_unsized done node
holder_unsized (Raised talker ∷ done) node = holder_unsized done node
holder_unsized (HandedOut ∷ done) node = holder_unsized done node
holder_unsized (DropTaken ∷ done) node = holder_unsized done node
holder_unsized (OfPrompts about doing ∷ done) node = holder_unsized done node
holder_unsized (OfLog doing ∷ done) node = holder_unsized done node
holder_unsized (Swept ∷ done) node = holder_unsized done node
holder_unsized (Halted ∷ done) node = refl

pub prompts_unsized : (done : List Deed) (of : PromptKind) → prompt_calls (unsized done) of ≡ prompt_calls done of
prompts_unsized [] of = refl
prompts_unsized (OfFids at (Versioned msize) ∷ done) of = prompts_unsized done of
prompts_unsized (OfFids at (Attached f) ∷ done) of = prompts_unsized done of
prompts_unsized (OfFids at (Walked f to) ∷ done) of = prompts_unsized done of
prompts_unsized (OfFids at (Opened f mode) ∷ done) of = prompts_unsized done of
prompts_unsized (OfFids at (Listed f) ∷ done) of = prompts_unsized done of
prompts_unsized (OfFids at (Browsed f place) ∷ done) of = prompts_unsized done of
prompts_unsized (OfFids at (Clunked f) ∷ done) of = prompts_unsized done of
prompts_unsized (OfKeys at (Edited edit) ∷ done) of = prompts_unsized done of
prompts_unsized (OfKeys at Switched ∷ done) of = prompts_unsized done of
prompts_unsized (OfReplies at (Answered tag body) ∷ done) of = prompts_unsized done of
prompts_unsized (OfReplies at (Awaited tag f count) ∷ done) of = prompts_unsized done of
prompts_unsized (OfReplies at (Settled tag body) ∷ done) of = prompts_unsized done of
prompts_unsized (OfReplies at (Flushed tag) ∷ done) of = prompts_unsized done of
prompts_unsized (OfReplies at Taken ∷ done) of = prompts_unsized done of
prompts_unsized (OfConnection at Entered ∷ done) of = prompts_unsized done of
prompts_unsized (OfConnection at Hung ∷ done) of = prompts_unsized done of
prompts_unsized (OfTalk talker call ∷ done) of = prompts_unsized done of
prompts_unsized (Raised talker ∷ done) of = prompts_unsized done of
prompts_unsized (HandedOut ∷ done) of = prompts_unsized done of
prompts_unsized (DropTaken ∷ done) of = prompts_unsized done of
prompts_unsized (OfPrompts about doing ∷ done) of = rw (prompts_unsized done of) refl
prompts_unsized (OfLog doing ∷ done) of = prompts_unsized done of
prompts_unsized (Swept ∷ done) of = prompts_unsized done of
prompts_unsized (Halted ∷ done) of = refl

pub log_unsized : (done : List Deed) → log_calls (unsized done) ≡ log_calls done
log_unsized [] = refl
log_unsized (OfFids at (Versioned msize) ∷ done) = log_unsized done
log_unsized (OfFids at (Attached f) ∷ done) = log_unsized done
log_unsized (OfFids at (Walked f to) ∷ done) = log_unsized done
log_unsized (OfFids at (Opened f mode) ∷ done) = log_unsized done
log_unsized (OfFids at (Listed f) ∷ done) = log_unsized done
log_unsized (OfFids at (Browsed f place) ∷ done) = log_unsized done
log_unsized (OfFids at (Clunked f) ∷ done) = log_unsized done
log_unsized (OfKeys at (Edited edit) ∷ done) = log_unsized done
log_unsized (OfKeys at Switched ∷ done) = log_unsized done
log_unsized (OfReplies at (Answered tag body) ∷ done) = log_unsized done
log_unsized (OfReplies at (Awaited tag f count) ∷ done) = log_unsized done
log_unsized (OfReplies at (Settled tag body) ∷ done) = log_unsized done
log_unsized (OfReplies at (Flushed tag) ∷ done) = log_unsized done
log_unsized (OfReplies at Taken ∷ done) = log_unsized done
log_unsized (OfConnection at Entered ∷ done) = log_unsized done
log_unsized (OfConnection at Hung ∷ done) = log_unsized done
log_unsized (OfTalk talker call ∷ done) = log_unsized done
log_unsized (Raised talker ∷ done) = log_unsized done
log_unsized (HandedOut ∷ done) = log_unsized done
log_unsized (DropTaken ∷ done) = log_unsized done
log_unsized (OfPrompts about doing ∷ done) = log_unsized done
log_unsized (OfLog doing ∷ done) = rw (log_unsized done) refl
log_unsized (Swept ∷ done) = log_unsized done
log_unsized (Halted ∷ done) = refl

pub held_unsized : (done : List Deed) (conn : ℕ) → held_by (unsized done) conn ≡ held_by done conn
held_unsized [] conn = refl
held_unsized (OfFids at (Versioned msize) ∷ done) conn = rw (held_unsized done conn) refl
held_unsized (OfFids at (Attached f) ∷ done) conn = rw (fid_unsized done conn f, held_unsized done conn) refl
held_unsized (OfFids at (Walked f to) ∷ done) conn = rw (fid_unsized done conn f, held_unsized done conn) refl
held_unsized (OfFids at (Opened f mode) ∷ done) conn = held_unsized done conn
held_unsized (OfFids at (Listed f) ∷ done) conn = held_unsized done conn
held_unsized (OfFids at (Browsed f place) ∷ done) conn = held_unsized done conn
held_unsized (OfFids at (Clunked f) ∷ done) conn = rw (fid_unsized done conn f, held_unsized done conn) refl
held_unsized (OfKeys at (Edited edit) ∷ done) conn = held_unsized done conn
held_unsized (OfKeys at Switched ∷ done) conn = held_unsized done conn
held_unsized (OfReplies at (Answered tag body) ∷ done) conn = held_unsized done conn
held_unsized (OfReplies at (Awaited tag f count) ∷ done) conn = held_unsized done conn
held_unsized (OfReplies at (Settled tag body) ∷ done) conn = held_unsized done conn
held_unsized (OfReplies at (Flushed tag) ∷ done) conn = held_unsized done conn
held_unsized (OfReplies at Taken ∷ done) conn = held_unsized done conn
held_unsized (OfConnection at Entered ∷ done) conn = held_unsized done conn
held_unsized (OfConnection at Hung ∷ done) conn = rw (held_unsized done conn) refl
held_unsized (OfTalk talker call ∷ done) conn = held_unsized done conn
held_unsized (Raised talker ∷ done) conn = held_unsized done conn
held_unsized (HandedOut ∷ done) conn = held_unsized done conn
held_unsized (DropTaken ∷ done) conn = held_unsized done conn
held_unsized (OfPrompts about doing ∷ done) conn = held_unsized done conn
held_unsized (OfLog doing ∷ done) conn = held_unsized done conn
held_unsized (Swept ∷ done) conn = held_unsized done conn
held_unsized (Halted ∷ done) conn = refl

pub talks_unsized : (done : List Deed) → opened_talks (unsized done) ≡ opened_talks done
talks_unsized [] = refl
talks_unsized (OfFids at (Versioned msize) ∷ done) = talks_unsized done
talks_unsized (OfFids at (Attached f) ∷ done) = talks_unsized done
talks_unsized (OfFids at (Walked f to) ∷ done) = talks_unsized done
talks_unsized (OfFids at (Opened f mode) ∷ done) = rw (fid_unsized done at f, talks_unsized done) refl
talks_unsized (OfFids at (Listed f) ∷ done) = talks_unsized done
talks_unsized (OfFids at (Browsed f place) ∷ done) = talks_unsized done
talks_unsized (OfFids at (Clunked f) ∷ done) = talks_unsized done
talks_unsized (OfKeys at (Edited edit) ∷ done) = talks_unsized done
talks_unsized (OfKeys at Switched ∷ done) = talks_unsized done
talks_unsized (OfReplies at (Answered tag body) ∷ done) = talks_unsized done
talks_unsized (OfReplies at (Awaited tag f count) ∷ done) = talks_unsized done
talks_unsized (OfReplies at (Settled tag body) ∷ done) = talks_unsized done
talks_unsized (OfReplies at (Flushed tag) ∷ done) = talks_unsized done
talks_unsized (OfReplies at Taken ∷ done) = talks_unsized done
talks_unsized (OfConnection at Entered ∷ done) = talks_unsized done
talks_unsized (OfConnection at Hung ∷ done) = talks_unsized done
talks_unsized (OfTalk talker call ∷ done) = talks_unsized done
talks_unsized (Raised talker ∷ done) = talks_unsized done
talks_unsized (HandedOut ∷ done) = talks_unsized done
talks_unsized (DropTaken ∷ done) = talks_unsized done
talks_unsized (OfPrompts about doing ∷ done) = talks_unsized done
talks_unsized (OfLog doing ∷ done) = talks_unsized done
talks_unsized (Swept ∷ done) = talks_unsized done
talks_unsized (Halted ∷ done) = talks_unsized done

pub speakers_unsized : (done : List Deed) → speakers (unsized done) ≡ speakers done
speakers_unsized [] = refl
speakers_unsized (OfFids at (Versioned msize) ∷ done) = rw (speakers_unsized done) refl
speakers_unsized (OfFids at (Attached f) ∷ done) = speakers_unsized done
speakers_unsized (OfFids at (Walked f to) ∷ done) = speakers_unsized done
speakers_unsized (OfFids at (Opened f mode) ∷ done) = rw (fid_unsized done at f, talks_unsized done, speakers_unsized done) refl
speakers_unsized (OfFids at (Listed f) ∷ done) = speakers_unsized done
speakers_unsized (OfFids at (Browsed f place) ∷ done) = speakers_unsized done
speakers_unsized (OfFids at (Clunked f) ∷ done) = rw (speakers_unsized done) refl
speakers_unsized (OfKeys at (Edited edit) ∷ done) = speakers_unsized done
speakers_unsized (OfKeys at Switched ∷ done) = speakers_unsized done
speakers_unsized (OfReplies at (Answered tag body) ∷ done) = speakers_unsized done
speakers_unsized (OfReplies at (Awaited tag f count) ∷ done) = speakers_unsized done
speakers_unsized (OfReplies at (Settled tag body) ∷ done) = speakers_unsized done
speakers_unsized (OfReplies at (Flushed tag) ∷ done) = speakers_unsized done
speakers_unsized (OfReplies at Taken ∷ done) = speakers_unsized done
speakers_unsized (OfConnection at Entered ∷ done) = speakers_unsized done
speakers_unsized (OfConnection at Hung ∷ done) = rw (speakers_unsized done) refl
speakers_unsized (OfTalk talker call ∷ done) = speakers_unsized done
speakers_unsized (Raised talker ∷ done) = speakers_unsized done
speakers_unsized (HandedOut ∷ done) = speakers_unsized done
speakers_unsized (DropTaken ∷ done) = speakers_unsized done
speakers_unsized (OfPrompts about doing ∷ done) = speakers_unsized done
speakers_unsized (OfLog doing ∷ done) = speakers_unsized done
speakers_unsized (Swept ∷ done) = speakers_unsized done
speakers_unsized (Halted ∷ done) = refl

pub opened_unsized : (done : List Deed) (conn : ℕ) → was_opened (unsized done) conn ≡ was_opened done conn
opened_unsized [] conn = refl
opened_unsized (OfFids at (Versioned msize) ∷ done) conn = opened_unsized done conn
opened_unsized (OfFids at (Attached f) ∷ done) conn = opened_unsized done conn
opened_unsized (OfFids at (Walked f to) ∷ done) conn = opened_unsized done conn
opened_unsized (OfFids at (Opened f mode) ∷ done) conn = opened_unsized done conn
opened_unsized (OfFids at (Listed f) ∷ done) conn = opened_unsized done conn
opened_unsized (OfFids at (Browsed f place) ∷ done) conn = opened_unsized done conn
opened_unsized (OfFids at (Clunked f) ∷ done) conn = opened_unsized done conn
opened_unsized (OfKeys at (Edited edit) ∷ done) conn = opened_unsized done conn
opened_unsized (OfKeys at Switched ∷ done) conn = opened_unsized done conn
opened_unsized (OfReplies at (Answered tag body) ∷ done) conn = opened_unsized done conn
opened_unsized (OfReplies at (Awaited tag f count) ∷ done) conn = opened_unsized done conn
opened_unsized (OfReplies at (Settled tag body) ∷ done) conn = opened_unsized done conn
opened_unsized (OfReplies at (Flushed tag) ∷ done) conn = opened_unsized done conn
opened_unsized (OfReplies at Taken ∷ done) conn = opened_unsized done conn
opened_unsized (OfConnection at Entered ∷ done) conn = rw (opened_unsized done conn) refl
opened_unsized (OfConnection at Hung ∷ done) conn = opened_unsized done conn
opened_unsized (OfTalk talker call ∷ done) conn = opened_unsized done conn
opened_unsized (Raised talker ∷ done) conn = opened_unsized done conn
opened_unsized (HandedOut ∷ done) conn = opened_unsized done conn
opened_unsized (DropTaken ∷ done) conn = opened_unsized done conn
opened_unsized (OfPrompts about doing ∷ done) conn = opened_unsized done conn
opened_unsized (OfLog doing ∷ done) conn = opened_unsized done conn
opened_unsized (Swept ∷ done) conn = opened_unsized done conn
opened_unsized (Halted ∷ done) conn = opened_unsized done conn

pub hung_unsized : (done : List Deed) (conn : ℕ) → was_hung (unsized done) conn ≡ was_hung done conn
hung_unsized [] conn = refl
hung_unsized (OfFids at (Versioned msize) ∷ done) conn = hung_unsized done conn
hung_unsized (OfFids at (Attached f) ∷ done) conn = hung_unsized done conn
hung_unsized (OfFids at (Walked f to) ∷ done) conn = hung_unsized done conn
hung_unsized (OfFids at (Opened f mode) ∷ done) conn = hung_unsized done conn
hung_unsized (OfFids at (Listed f) ∷ done) conn = hung_unsized done conn
hung_unsized (OfFids at (Browsed f place) ∷ done) conn = hung_unsized done conn
hung_unsized (OfFids at (Clunked f) ∷ done) conn = hung_unsized done conn
hung_unsized (OfKeys at (Edited edit) ∷ done) conn = hung_unsized done conn
hung_unsized (OfKeys at Switched ∷ done) conn = hung_unsized done conn
hung_unsized (OfReplies at (Answered tag body) ∷ done) conn = hung_unsized done conn
hung_unsized (OfReplies at (Awaited tag f count) ∷ done) conn = hung_unsized done conn
hung_unsized (OfReplies at (Settled tag body) ∷ done) conn = hung_unsized done conn
hung_unsized (OfReplies at (Flushed tag) ∷ done) conn = hung_unsized done conn
hung_unsized (OfReplies at Taken ∷ done) conn = hung_unsized done conn
hung_unsized (OfConnection at Entered ∷ done) conn = hung_unsized done conn
hung_unsized (OfConnection at Hung ∷ done) conn = rw (hung_unsized done conn) refl
hung_unsized (OfTalk talker call ∷ done) conn = hung_unsized done conn
hung_unsized (Raised talker ∷ done) conn = hung_unsized done conn
hung_unsized (HandedOut ∷ done) conn = hung_unsized done conn
hung_unsized (DropTaken ∷ done) conn = hung_unsized done conn
hung_unsized (OfPrompts about doing ∷ done) conn = hung_unsized done conn
hung_unsized (OfLog doing ∷ done) conn = hung_unsized done conn
hung_unsized (Swept ∷ done) conn = hung_unsized done conn
hung_unsized (Halted ∷ done) conn = hung_unsized done conn

pub debug_unsized : (done : List Deed) → is_debug (unsized done) ≡ is_debug done
debug_unsized [] = refl
debug_unsized (OfFids at (Versioned msize) ∷ done) = debug_unsized done
debug_unsized (OfFids at (Attached f) ∷ done) = debug_unsized done
debug_unsized (OfFids at (Walked f to) ∷ done) = debug_unsized done
debug_unsized (OfFids at (Opened f mode) ∷ done) = debug_unsized done
debug_unsized (OfFids at (Listed f) ∷ done) = debug_unsized done
debug_unsized (OfFids at (Browsed f place) ∷ done) = debug_unsized done
debug_unsized (OfFids at (Clunked f) ∷ done) = debug_unsized done
debug_unsized (OfKeys at (Edited edit) ∷ done) = debug_unsized done
debug_unsized (OfKeys at Switched ∷ done) = rw (debug_unsized done) refl
debug_unsized (OfReplies at (Answered tag body) ∷ done) = debug_unsized done
debug_unsized (OfReplies at (Awaited tag f count) ∷ done) = debug_unsized done
debug_unsized (OfReplies at (Settled tag body) ∷ done) = debug_unsized done
debug_unsized (OfReplies at (Flushed tag) ∷ done) = debug_unsized done
debug_unsized (OfReplies at Taken ∷ done) = debug_unsized done
debug_unsized (OfConnection at Entered ∷ done) = debug_unsized done
debug_unsized (OfConnection at Hung ∷ done) = debug_unsized done
debug_unsized (OfTalk talker call ∷ done) = debug_unsized done
debug_unsized (Raised talker ∷ done) = debug_unsized done
debug_unsized (HandedOut ∷ done) = debug_unsized done
debug_unsized (DropTaken ∷ done) = debug_unsized done
debug_unsized (OfPrompts about doing ∷ done) = debug_unsized done
debug_unsized (OfLog doing ∷ done) = debug_unsized done
debug_unsized (Swept ∷ done) = debug_unsized done
debug_unsized (Halted ∷ done) = debug_unsized done

pub halted_unsized : (done : List Deed) → is_halted (unsized done) ≡ is_halted done
halted_unsized [] = refl
halted_unsized (OfFids at (Versioned msize) ∷ done) = halted_unsized done
halted_unsized (OfFids at (Attached f) ∷ done) = halted_unsized done
halted_unsized (OfFids at (Walked f to) ∷ done) = halted_unsized done
halted_unsized (OfFids at (Opened f mode) ∷ done) = halted_unsized done
halted_unsized (OfFids at (Listed f) ∷ done) = halted_unsized done
halted_unsized (OfFids at (Browsed f place) ∷ done) = halted_unsized done
halted_unsized (OfFids at (Clunked f) ∷ done) = halted_unsized done
halted_unsized (OfKeys at (Edited edit) ∷ done) = halted_unsized done
halted_unsized (OfKeys at Switched ∷ done) = halted_unsized done
halted_unsized (OfReplies at (Answered tag body) ∷ done) = halted_unsized done
halted_unsized (OfReplies at (Awaited tag f count) ∷ done) = halted_unsized done
halted_unsized (OfReplies at (Settled tag body) ∷ done) = halted_unsized done
halted_unsized (OfReplies at (Flushed tag) ∷ done) = halted_unsized done
halted_unsized (OfReplies at Taken ∷ done) = halted_unsized done
halted_unsized (OfConnection at Entered ∷ done) = halted_unsized done
halted_unsized (OfConnection at Hung ∷ done) = halted_unsized done
halted_unsized (OfTalk talker call ∷ done) = halted_unsized done
halted_unsized (Raised talker ∷ done) = halted_unsized done
halted_unsized (HandedOut ∷ done) = halted_unsized done
halted_unsized (DropTaken ∷ done) = halted_unsized done
halted_unsized (OfPrompts about doing ∷ done) = halted_unsized done
halted_unsized (OfLog doing ∷ done) = halted_unsized done
halted_unsized (Swept ∷ done) = halted_unsized done
halted_unsized (Halted ∷ done) = refl

pub edits_unsized : (done : List Deed) → edits_of (unsized done) ≡ edits_of done
edits_unsized [] = refl
edits_unsized (OfFids at (Versioned msize) ∷ done) = edits_unsized done
edits_unsized (OfFids at (Attached f) ∷ done) = edits_unsized done
edits_unsized (OfFids at (Walked f to) ∷ done) = edits_unsized done
edits_unsized (OfFids at (Opened f mode) ∷ done) = edits_unsized done
edits_unsized (OfFids at (Listed f) ∷ done) = edits_unsized done
edits_unsized (OfFids at (Browsed f place) ∷ done) = edits_unsized done
edits_unsized (OfFids at (Clunked f) ∷ done) = edits_unsized done
edits_unsized (OfKeys at (Edited edit) ∷ done) = rw (edits_unsized done) refl
edits_unsized (OfKeys at Switched ∷ done) = edits_unsized done
edits_unsized (OfReplies at (Answered tag body) ∷ done) = edits_unsized done
edits_unsized (OfReplies at (Awaited tag f count) ∷ done) = edits_unsized done
edits_unsized (OfReplies at (Settled tag body) ∷ done) = edits_unsized done
edits_unsized (OfReplies at (Flushed tag) ∷ done) = edits_unsized done
edits_unsized (OfReplies at Taken ∷ done) = edits_unsized done
edits_unsized (OfConnection at Entered ∷ done) = edits_unsized done
edits_unsized (OfConnection at Hung ∷ done) = edits_unsized done
edits_unsized (OfTalk talker call ∷ done) = edits_unsized done
edits_unsized (Raised talker ∷ done) = edits_unsized done
edits_unsized (HandedOut ∷ done) = edits_unsized done
edits_unsized (DropTaken ∷ done) = edits_unsized done
edits_unsized (OfPrompts about doing ∷ done) = edits_unsized done
edits_unsized (OfLog doing ∷ done) = edits_unsized done
edits_unsized (Swept ∷ done) = edits_unsized done
edits_unsized (Halted ∷ done) = edits_unsized done

pub open_unsized : (done : List Deed) → all_open (unsized done) ≡ all_open done
open_unsized [] = refl
open_unsized (OfFids at (Versioned msize) ∷ done) = open_unsized done
open_unsized (OfFids at (Attached f) ∷ done) = open_unsized done
open_unsized (OfFids at (Walked f to) ∷ done) = open_unsized done
open_unsized (OfFids at (Opened f mode) ∷ done) = open_unsized done
open_unsized (OfFids at (Listed f) ∷ done) = open_unsized done
open_unsized (OfFids at (Browsed f place) ∷ done) = open_unsized done
open_unsized (OfFids at (Clunked f) ∷ done) = open_unsized done
open_unsized (OfKeys at (Edited edit) ∷ done) = rw (open_unsized done) refl
open_unsized (OfKeys at Switched ∷ done) = open_unsized done
open_unsized (OfReplies at (Answered tag body) ∷ done) = open_unsized done
open_unsized (OfReplies at (Awaited tag f count) ∷ done) = open_unsized done
open_unsized (OfReplies at (Settled tag body) ∷ done) = open_unsized done
open_unsized (OfReplies at (Flushed tag) ∷ done) = open_unsized done
open_unsized (OfReplies at Taken ∷ done) = open_unsized done
open_unsized (OfConnection at Entered ∷ done) = open_unsized done
open_unsized (OfConnection at Hung ∷ done) = open_unsized done
open_unsized (OfTalk talker call ∷ done) = open_unsized done
open_unsized (Raised talker ∷ done) = open_unsized done
open_unsized (HandedOut ∷ done) = open_unsized done
open_unsized (DropTaken ∷ done) = open_unsized done
open_unsized (OfPrompts about doing ∷ done) = open_unsized done
open_unsized (OfLog doing ∷ done) = open_unsized done
open_unsized (Swept ∷ done) = open_unsized done
open_unsized (Halted ∷ done) = open_unsized done

pub talk_unsized : (done : List Deed) (n : ℕ) → talk (unsized done) n ≡ talk done n
talk_unsized [] n = refl
talk_unsized (OfFids at (Versioned msize) ∷ done) n = talk_unsized done n
talk_unsized (OfFids at (Attached f) ∷ done) n = talk_unsized done n
talk_unsized (OfFids at (Walked f to) ∷ done) n = talk_unsized done n
talk_unsized (OfFids at (Opened f mode) ∷ done) n = talk_unsized done n
talk_unsized (OfFids at (Listed f) ∷ done) n = talk_unsized done n
talk_unsized (OfFids at (Browsed f place) ∷ done) n = talk_unsized done n
talk_unsized (OfFids at (Clunked f) ∷ done) n = talk_unsized done n
talk_unsized (OfKeys at (Edited edit) ∷ done) n = talk_unsized done n
talk_unsized (OfKeys at Switched ∷ done) n = talk_unsized done n
talk_unsized (OfReplies at (Answered tag body) ∷ done) n = talk_unsized done n
talk_unsized (OfReplies at (Awaited tag f count) ∷ done) n = talk_unsized done n
talk_unsized (OfReplies at (Settled tag body) ∷ done) n = talk_unsized done n
talk_unsized (OfReplies at (Flushed tag) ∷ done) n = talk_unsized done n
talk_unsized (OfReplies at Taken ∷ done) n = talk_unsized done n
talk_unsized (OfConnection at Entered ∷ done) n = talk_unsized done n
talk_unsized (OfConnection at Hung ∷ done) n = talk_unsized done n
talk_unsized (OfTalk talker call ∷ done) n = rw (talk_unsized done n) refl
talk_unsized (Raised talker ∷ done) n = talk_unsized done n
talk_unsized (HandedOut ∷ done) n = talk_unsized done n
talk_unsized (DropTaken ∷ done) n = talk_unsized done n
talk_unsized (OfPrompts about doing ∷ done) n = talk_unsized done n
talk_unsized (OfLog doing ∷ done) n = talk_unsized done n
talk_unsized (Swept ∷ done) n = talk_unsized done n
talk_unsized (Halted ∷ done) n = talk_unsized done n

pub text_unsized : (done : List Deed) (conn fid : ℕ) → text_of (unsized done) conn fid ≡ text_of done conn fid
text_unsized [] conn fid = refl
text_unsized (OfFids at (Versioned msize) ∷ done) conn fid = rw (text_unsized done conn fid) refl
text_unsized (OfFids at (Attached f) ∷ done) conn fid = rw (text_unsized done conn fid) refl
text_unsized (OfFids at (Walked f to) ∷ done) conn fid = rw (text_unsized done conn fid) refl
text_unsized (OfFids at (Opened f mode) ∷ done) conn fid = text_unsized done conn fid
text_unsized (OfFids at (Listed f) ∷ done) conn fid = rw (edits_unsized done, text_unsized done conn fid) refl
text_unsized (OfFids at (Browsed f place) ∷ done) conn fid = text_unsized done conn fid
text_unsized (OfFids at (Clunked f) ∷ done) conn fid = rw (text_unsized done conn fid) refl
text_unsized (OfKeys at (Edited edit) ∷ done) conn fid = text_unsized done conn fid
text_unsized (OfKeys at Switched ∷ done) conn fid = text_unsized done conn fid
text_unsized (OfReplies at (Answered tag body) ∷ done) conn fid = text_unsized done conn fid
text_unsized (OfReplies at (Awaited tag f count) ∷ done) conn fid = text_unsized done conn fid
text_unsized (OfReplies at (Settled tag body) ∷ done) conn fid = text_unsized done conn fid
text_unsized (OfReplies at (Flushed tag) ∷ done) conn fid = text_unsized done conn fid
text_unsized (OfReplies at Taken ∷ done) conn fid = text_unsized done conn fid
text_unsized (OfConnection at Entered ∷ done) conn fid = text_unsized done conn fid
text_unsized (OfConnection at Hung ∷ done) conn fid = rw (text_unsized done conn fid) refl
text_unsized (OfTalk talker call ∷ done) conn fid = text_unsized done conn fid
text_unsized (Raised talker ∷ done) conn fid = text_unsized done conn fid
text_unsized (HandedOut ∷ done) conn fid = text_unsized done conn fid
text_unsized (DropTaken ∷ done) conn fid = text_unsized done conn fid
text_unsized (OfPrompts about doing ∷ done) conn fid = text_unsized done conn fid
text_unsized (OfLog doing ∷ done) conn fid = text_unsized done conn fid
text_unsized (Swept ∷ done) conn fid = text_unsized done conn fid
text_unsized (Halted ∷ done) conn fid = refl

-- ---- the reads that wait, whatever their sizes are

abbrev pub bares : List Wait → List Wait
bares ws = map bare ws

abbrev sized : ℕ → ℕ → ℕ → Wait
sized tag fid count = record { tag = tag; fid = fid; count = count; reply = None }

bare_settled : (body : RBody) (w : Wait) → bare (settled_by body w) ≡ settled_by body (bare w)
bare_settled body w = refl

bare_tag : (tag : ℕ) (body : RBody) (ws : List Wait) → bares (settle_tag tag body ws) ≡ settle_tag tag body (bares ws)
bare_tag tag body [] = refl
bare_tag tag body (w ∷ ws) = elim (cases_Bool (eqb w.tag tag)) [
  | inl e ↦ rw e (ap (λ (v : Wait). v ∷ bares ws) (bare_settled body w))
  | inr e ↦ rw e (ap (λ (vs : List Wait). bare w ∷ vs) (bare_tag tag body ws))
]

bare_fid : (fid : ℕ) (body : RBody) (ws : List Wait) → bares (map (settle_fid fid body) ws) ≡ map (settle_fid fid body) (bares ws)
bare_fid fid body [] = refl
bare_fid fid body (w ∷ ws) = elim (cases_Bool (eqb w.fid fid)) [
  | inl e ↦ rw (e, bare_fid fid body ws) (ap (λ (v : Wait). v ∷ map (settle_fid fid body) (bares ws)) (bare_settled body w))
  | inr e ↦ rw (e, bare_fid fid body ws) refl
]

bare_kept : (keep : Wait → Bool) (ws : List Wait) → ((w : Wait) → keep (bare w) ≡ keep w) → bares (filter keep ws) ≡ filter keep (bares ws)
bare_kept keep [] same = refl
bare_kept keep (w ∷ ws) same = elim (cases_Bool (keep w)) [
  | inl e ↦ rw (same w, e) (ap (λ (vs : List Wait). bare w ∷ vs) (bare_kept keep ws same))
  | inr e ↦ rw (same w, e) (bare_kept keep ws same)
]

bare_settles : (w : Wait) → is_unsettled (bare w) ≡ is_unsettled w
bare_settles w = refl

either_bare : (b : Bool) (one other xs ys : List Wait) → bares one ≡ bares other → bares xs ≡ bares ys → bares (cond b one xs) ≡ bares (cond b other ys)
either_bare true one other xs ys e f = e
either_bare false one other xs ys e f = f

tag_bare : (tag : ℕ) (body : RBody) (xs ys : List Wait) → bares xs ≡ bares ys → bares (settle_tag tag body xs) ≡ bares (settle_tag tag body ys)
tag_bare tag body xs ys e = bare_tag tag body xs ∙ ap (settle_tag tag body) e ∙ sym (bare_tag tag body ys)

fid_bare : (fid : ℕ) (xs ys : List Wait) → bares xs ≡ bares ys → bares (map (settle_fid fid fid_given_up) xs) ≡ bares (map (settle_fid fid fid_given_up) ys)
fid_bare fid xs ys e = bare_fid fid fid_given_up xs ∙ ap (map (settle_fid fid fid_given_up)) e ∙ sym (bare_fid fid fid_given_up ys)

kept_bare : (keep : Wait → Bool) (xs ys : List Wait) → ((w : Wait) → keep (bare w) ≡ keep w) → bares xs ≡ bares ys → bares (filter keep xs) ≡ bares (filter keep ys)
kept_bare keep xs ys same e = bare_kept keep xs same ∙ ap (filter keep) e ∙ sym (bare_kept keep ys same)

append_bare : (xs ys : List Wait) (v w : Wait) → bare v ≡ bare w → bares xs ≡ bares ys → bares (xs ++ v ∷ []) ≡ bares (ys ++ w ∷ [])
append_bare xs ys v w e f = map-append bare xs (v ∷ []) ∙ ap (λ (us : List Wait). us ++ bare v ∷ []) f ∙ ap (λ (u : Wait). bares ys ++ u ∷ []) e ∙ sym (map-append bare ys (w ∷ []))

pub waits_unsized : (done : List Deed) (conn : ℕ) → bares (waits (unsized done) conn) ≡ bares (waits done conn)
waits_unsized [] conn = refl
waits_unsized (OfFids at (Versioned msize) ∷ done) conn = either_bare (eqb at conn) [] [] (waits (unsized done) conn) (waits done conn) refl (waits_unsized done conn)
waits_unsized (OfFids at (Attached f) ∷ done) conn = waits_unsized done conn
waits_unsized (OfFids at (Walked f to) ∷ done) conn = waits_unsized done conn
waits_unsized (OfFids at (Opened f mode) ∷ done) conn = waits_unsized done conn
waits_unsized (OfFids at (Listed f) ∷ done) conn = waits_unsized done conn
waits_unsized (OfFids at (Browsed f place) ∷ done) conn = waits_unsized done conn
waits_unsized (OfFids at (Clunked f) ∷ done) conn = either_bare (eqb at conn) _ _ (waits (unsized done) conn) (waits done conn) (fid_bare f (waits (unsized done) conn) (waits done conn) (waits_unsized done conn)) (waits_unsized done conn)
waits_unsized (OfKeys at (Edited edit) ∷ done) conn = waits_unsized done conn
waits_unsized (OfKeys at Switched ∷ done) conn = waits_unsized done conn
waits_unsized (OfReplies at (Answered tag body) ∷ done) conn = waits_unsized done conn
waits_unsized (OfReplies at (Awaited tag f count) ∷ done) conn = either_bare (eqb at conn) _ _ (waits (unsized done) conn) (waits done conn) (append_bare (waits (unsized done) conn) (waits done conn) (sized tag f (cond (is_rpc (node_of (fid_of done at f))) 0 count)) (sized tag f count) refl (waits_unsized done conn)) (waits_unsized done conn)
waits_unsized (OfReplies at (Settled tag body) ∷ done) conn = either_bare (eqb at conn) _ _ (waits (unsized done) conn) (waits done conn) (tag_bare tag body (waits (unsized done) conn) (waits done conn) (waits_unsized done conn)) (waits_unsized done conn)
waits_unsized (OfReplies at (Flushed tag) ∷ done) conn = either_bare (eqb at conn) _ _ (waits (unsized done) conn) (waits done conn) (kept_bare (λ wait. not (eqb wait.tag tag)) (waits (unsized done) conn) (waits done conn) (λ v. refl) (waits_unsized done conn)) (waits_unsized done conn)
waits_unsized (OfReplies at Taken ∷ done) conn = waits_unsized done conn
waits_unsized (OfConnection at Entered ∷ done) conn = waits_unsized done conn
waits_unsized (OfConnection at Hung ∷ done) conn = either_bare (eqb at conn) [] [] (waits (unsized done) conn) (waits done conn) refl (waits_unsized done conn)
waits_unsized (OfTalk talker call ∷ done) conn = waits_unsized done conn
waits_unsized (Raised talker ∷ done) conn = waits_unsized done conn
waits_unsized (HandedOut ∷ done) conn = waits_unsized done conn
waits_unsized (DropTaken ∷ done) conn = waits_unsized done conn
waits_unsized (OfPrompts about doing ∷ done) conn = waits_unsized done conn
waits_unsized (OfLog doing ∷ done) conn = waits_unsized done conn
waits_unsized (Swept ∷ done) conn = kept_bare is_unsettled (waits (unsized done) conn) (waits done conn) bare_settles (waits_unsized done conn)
waits_unsized (Halted ∷ done) conn = refl

pub any_bare_tag : (tag : ℕ) (ws : List Wait) → list_any (λ w. eqb w.tag tag) (bares ws) ≡ list_any (λ w. eqb w.tag tag) ws
any_bare_tag tag [] = refl
any_bare_tag tag (w ∷ ws) = ap (λ (b : Bool). eqb w.tag tag || b) (any_bare_tag tag ws)

under_unsized : (done : List Deed) (conn tag : ℕ) → waits_under (unsized done) conn tag ≡ waits_under done conn tag
under_unsized done conn tag = sym (any_bare_tag tag (waits (unsized done) conn)) ∙ ap (list_any (λ w. eqb w.tag tag)) (waits_unsized done conn) ∙ any_bare_tag tag (waits done conn)

any_fid : (fid : ℕ) (ws : List Wait) → list_any (λ w. eqb w.fid fid) (bares ws) ≡ list_any (λ w. eqb w.fid fid) ws
any_fid fid [] = refl
any_fid fid (w ∷ ws) = ap (λ (b : Bool). eqb w.fid fid || b) (any_fid fid ws)

for_unsized : (done : List Deed) (conn fid : ℕ) → waits_for (unsized done) conn fid ≡ waits_for done conn fid
for_unsized done conn fid = sym (any_fid fid (waits (unsized done) conn)) ∙ ap (list_any (λ w. eqb w.fid fid)) (waits_unsized done conn) ∙ any_fid fid (waits done conn)

pub settled_unsized : (done : List Deed) → has_settled (unsized done) ≡ has_settled done
settled_unsized [] = refl
settled_unsized (OfFids at (Versioned msize) ∷ done) = settled_unsized done
settled_unsized (OfFids at (Attached f) ∷ done) = settled_unsized done
settled_unsized (OfFids at (Walked f to) ∷ done) = settled_unsized done
settled_unsized (OfFids at (Opened f mode) ∷ done) = settled_unsized done
settled_unsized (OfFids at (Listed f) ∷ done) = settled_unsized done
settled_unsized (OfFids at (Browsed f place) ∷ done) = settled_unsized done
settled_unsized (OfFids at (Clunked f) ∷ done) = rw (for_unsized done at f, settled_unsized done) refl
settled_unsized (OfKeys at (Edited edit) ∷ done) = settled_unsized done
settled_unsized (OfKeys at Switched ∷ done) = settled_unsized done
settled_unsized (OfReplies at (Answered tag body) ∷ done) = settled_unsized done
settled_unsized (OfReplies at (Awaited tag f count) ∷ done) = settled_unsized done
settled_unsized (OfReplies at (Settled tag body) ∷ done) = rw (under_unsized done at tag, settled_unsized done) refl
settled_unsized (OfReplies at (Flushed tag) ∷ done) = settled_unsized done
settled_unsized (OfReplies at Taken ∷ done) = settled_unsized done
settled_unsized (OfConnection at Entered ∷ done) = settled_unsized done
settled_unsized (OfConnection at Hung ∷ done) = settled_unsized done
settled_unsized (OfTalk talker call ∷ done) = settled_unsized done
settled_unsized (Raised talker ∷ done) = settled_unsized done
settled_unsized (HandedOut ∷ done) = settled_unsized done
settled_unsized (DropTaken ∷ done) = settled_unsized done
settled_unsized (OfPrompts about doing ∷ done) = settled_unsized done
settled_unsized (OfLog doing ∷ done) = settled_unsized done
settled_unsized (Swept ∷ done) = refl
settled_unsized (Halted ∷ done) = refl
