-- What is read off the deeds stays when all is hidden that conversations met and were answered, and so do the reads of all
-- files but rpc.
use Rattle.std.proofs.Common.{◌≡◌, ℕ, List, [], ◌∷◌, ◌++◌, map, Bool, true, false, cond, eqb, ◌||◌, not, Option, Some, None, refl, sym, ap, ◌∙◌, length, suc, inl, inr, codes}
use Rattle.std.specs.Prelude.{option_map, is_some, Result, Err}
use Rattle.std.specs.List.{filter, list_any, list_all}
use Rattle.std.proofs.lemmas.Bool.{and_parts, not-true, cases_Bool}
use Rattle.file_tree.specs.declared.tree.Node.{Node}
use Rattle.file_tree.specs.declared.tree.Node.TheVariants.{Root, Factotum, Rpc, Ctl, Confirm, Needkey, Proto, Log}
use Rattle.file_tree.specs.Calls.{node_of}
use Rattle.attr_tuples.specs.Printing.{hidden}
use Rattle.key_lists.specs.Lists.{added, deleted, tells_secret}
use Rattle.key_lists.specs.Edits.{Add, Delete}
use Rattle.key_lists.specs.Listing.{list_text}
use Rattle.agent_history.specs.Deeds.{Deed, OfFids, OfKeys, OfReplies, OfConnection, OfTalk, Raised, HandedOut, OfPrompts, OfLog, DropTaken, Swept, Halted, Versioned, Attached, Walked, Opened, Listed, Browsed, Clunked, Edited, Switched, Answered, Awaited, Settled, Flushed, Taken, Entered, Hung, fid_of, holder_of, keys_of, msize_of, next_of, text_of}
use Rattle.agent_history.specs.Replies.{waits, Wait, fid_given_up, first_of, is_unsettled, settle_fid, settle_tag, settled_by, waits_under}
use Rattle.agent_history.specs.Requests.{is_rpc, Call, body_for, body_to, content_of, effective, granted, granted_body, refusal, reply_of, is_over, lacks_version, repeats_tag}
use Rattle.agent_laws.specs.Laws.{all_open, is_open_edit, as_it_came, in_public}
use Rattle.agent_laws.proofs.HiddenLaws.{hidden_list, added_hidden, deleted_by_hidden, deleted_hidden, list_text_hidden}
use Rattle.side_files.specs.declared.line.PromptKind.{PromptKind}
use Rattle.agent_history.specs.SideFiles.{log_calls, prompt_calls, lines_in}
use Rattle.side_files.specs.declared.line.PromptKind.TheVariants as k
use Rattle.side_files.specs.Calls as side
use Rattle.side_files.specs.Questions.{unread_lines}
use Rattle.nine.specs.declared.message.RBody.{RBody}
use Rattle.nine.specs.declared.message.RBody.TheVariants as r
use Rattle.nine.specs.declared.message.TBody.TheVariants as t
use Rattle.std.proofs.lemmas.List.{map-append}
use Rattle.agent_laws.proofs.GrowLaws.{of_message, unless_refused}
use Rattle.agent_laws.proofs.SecretLaws.{deeds_open}
use Rattle.agent_laws.proofs.WaitLaws.{reads_wait}
use Rattle.agent_history.specs.Histories.{History, deeds}
use Rattle.nine.specs.declared.message.TBody.{TBody}
use Rattle.nine.specs.declared.message.TMsg.{TMsg}
use Rattle.nine.specs.Decoding.{request_of}

-- ---- what is read off the deeds

pub keys_public : (done : List Deed) → all_open done ≡ true → keys_of (in_public done) ≡ hidden_list (keys_of done)
keys_public [] o = refl
keys_public (OfKeys at (Edited (Add key)) ∷ done) o = ap (added (map hidden key)) (keys_public done o) ∙ added_hidden key (keys_of done)
keys_public (OfKeys at (Edited (Delete template)) ∷ done) o =
    let parts = and_parts (not (list_any tells_secret template)) (all_open done) o in
    let open_ = not-true (list_any tells_secret template) parts.0 in
    ap (deleted (map hidden template)) (keys_public done parts.1) ∙ deleted_by_hidden template (hidden_list (keys_of done)) open_ ∙ deleted_hidden template (keys_of done) open_
keys_public (OfKeys at Switched ∷ done) o = keys_public done o
keys_public (OfFids at deed ∷ done) o = keys_public done o
keys_public (OfReplies at (Answered tag body) ∷ done) o = keys_public done o
keys_public (OfReplies at (Awaited tag f count) ∷ done) o = keys_public done o
keys_public (OfReplies at (Settled tag body) ∷ done) o = keys_public done o
keys_public (OfReplies at (Flushed tag) ∷ done) o = keys_public done o
keys_public (OfReplies at Taken ∷ done) o = keys_public done o
keys_public (OfConnection at deed ∷ done) o = keys_public done o
keys_public (OfTalk talker call ∷ done) o = keys_public done o
keys_public (Raised talker ∷ done) o = keys_public done o
keys_public (HandedOut ∷ done) o = keys_public done o
keys_public (DropTaken ∷ done) o = keys_public done o
keys_public (OfPrompts about doing ∷ done) o = keys_public done o
keys_public (OfLog doing ∷ done) o = keys_public done o
keys_public (Swept ∷ done) o = keys_public done o
keys_public (Halted ∷ done) o = keys_public done o

shown_public : (done : List Deed) → all_open done ≡ true → list_text (keys_of (in_public done)) ≡ list_text (keys_of done)
shown_public done o = ap list_text (keys_public done o) ∙ list_text_hidden (keys_of done)

pub msize_public : (done : List Deed) (conn : ℕ) → msize_of (in_public done) conn ≡ msize_of done conn
msize_public [] conn = refl
msize_public (OfFids at (Versioned msize) ∷ done) conn = rw (msize_public done conn) refl
msize_public (OfFids at (Attached f) ∷ done) conn = msize_public done conn
msize_public (OfFids at (Walked f to) ∷ done) conn = msize_public done conn
msize_public (OfFids at (Opened f mode) ∷ done) conn = msize_public done conn
msize_public (OfFids at (Listed f) ∷ done) conn = msize_public done conn
msize_public (OfFids at (Browsed f place) ∷ done) conn = msize_public done conn
msize_public (OfFids at (Clunked f) ∷ done) conn = msize_public done conn
msize_public (OfKeys at (Edited edit) ∷ done) conn = msize_public done conn
msize_public (OfKeys at Switched ∷ done) conn = msize_public done conn
msize_public (OfReplies at (Answered tag body) ∷ done) conn = msize_public done conn
msize_public (OfReplies at (Awaited tag f count) ∷ done) conn = msize_public done conn
msize_public (OfReplies at (Settled tag body) ∷ done) conn = msize_public done conn
msize_public (OfReplies at (Flushed tag) ∷ done) conn = msize_public done conn
msize_public (OfReplies at Taken ∷ done) conn = msize_public done conn
msize_public (OfConnection at Entered ∷ done) conn = msize_public done conn
msize_public (OfConnection at Hung ∷ done) conn = rw (msize_public done conn) refl
msize_public (OfTalk talker call ∷ done) conn = msize_public done conn
msize_public (Raised talker ∷ done) conn = msize_public done conn
msize_public (HandedOut ∷ done) conn = msize_public done conn
msize_public (DropTaken ∷ done) conn = msize_public done conn
msize_public (OfPrompts about doing ∷ done) conn = msize_public done conn
msize_public (OfLog doing ∷ done) conn = msize_public done conn
msize_public (Swept ∷ done) conn = msize_public done conn
msize_public (Halted ∷ done) conn = refl

pub fid_public : (done : List Deed) (conn fid : ℕ) → fid_of (in_public done) conn fid ≡ fid_of done conn fid
fid_public [] conn fid = refl
fid_public (OfFids at (Versioned msize) ∷ done) conn fid = rw (fid_public done conn fid) refl
fid_public (OfFids at (Attached f) ∷ done) conn fid = rw (fid_public done conn fid) refl
fid_public (OfFids at (Walked f to) ∷ done) conn fid = rw (fid_public done conn fid) refl
fid_public (OfFids at (Opened f mode) ∷ done) conn fid = rw (fid_public done conn fid) refl
fid_public (OfFids at (Listed f) ∷ done) conn fid = fid_public done conn fid
fid_public (OfFids at (Browsed f place) ∷ done) conn fid = fid_public done conn fid
fid_public (OfFids at (Clunked f) ∷ done) conn fid = rw (fid_public done conn fid) refl
fid_public (OfKeys at (Edited edit) ∷ done) conn fid = fid_public done conn fid
fid_public (OfKeys at Switched ∷ done) conn fid = fid_public done conn fid
fid_public (OfReplies at (Answered tag body) ∷ done) conn fid = fid_public done conn fid
fid_public (OfReplies at (Awaited tag f count) ∷ done) conn fid = fid_public done conn fid
fid_public (OfReplies at (Settled tag body) ∷ done) conn fid = fid_public done conn fid
fid_public (OfReplies at (Flushed tag) ∷ done) conn fid = fid_public done conn fid
fid_public (OfReplies at Taken ∷ done) conn fid = fid_public done conn fid
fid_public (OfConnection at Entered ∷ done) conn fid = fid_public done conn fid
fid_public (OfConnection at Hung ∷ done) conn fid = rw (fid_public done conn fid) refl
fid_public (OfTalk talker call ∷ done) conn fid = fid_public done conn fid
fid_public (Raised talker ∷ done) conn fid = fid_public done conn fid
fid_public (HandedOut ∷ done) conn fid = fid_public done conn fid
fid_public (DropTaken ∷ done) conn fid = fid_public done conn fid
fid_public (OfPrompts about doing ∷ done) conn fid = fid_public done conn fid
fid_public (OfLog doing ∷ done) conn fid = fid_public done conn fid
fid_public (Swept ∷ done) conn fid = fid_public done conn fid
fid_public (Halted ∷ done) conn fid = refl

pub next_public : (done : List Deed) (conn fid : ℕ) → next_of (in_public done) conn fid ≡ next_of done conn fid
next_public [] conn fid = refl
next_public (OfFids at (Versioned msize) ∷ done) conn fid = rw (next_public done conn fid) refl
next_public (OfFids at (Attached f) ∷ done) conn fid = rw (next_public done conn fid) refl
next_public (OfFids at (Walked f to) ∷ done) conn fid = rw (next_public done conn fid) refl
next_public (OfFids at (Opened f mode) ∷ done) conn fid = rw (next_public done conn fid) refl
next_public (OfFids at (Listed f) ∷ done) conn fid = next_public done conn fid
next_public (OfFids at (Browsed f place) ∷ done) conn fid = rw (next_public done conn fid) refl
next_public (OfFids at (Clunked f) ∷ done) conn fid = rw (next_public done conn fid) refl
next_public (OfKeys at (Edited edit) ∷ done) conn fid = next_public done conn fid
next_public (OfKeys at Switched ∷ done) conn fid = next_public done conn fid
next_public (OfReplies at (Answered tag body) ∷ done) conn fid = next_public done conn fid
next_public (OfReplies at (Awaited tag f count) ∷ done) conn fid = next_public done conn fid
next_public (OfReplies at (Settled tag body) ∷ done) conn fid = next_public done conn fid
next_public (OfReplies at (Flushed tag) ∷ done) conn fid = next_public done conn fid
next_public (OfReplies at Taken ∷ done) conn fid = next_public done conn fid
next_public (OfConnection at Entered ∷ done) conn fid = next_public done conn fid
next_public (OfConnection at Hung ∷ done) conn fid = rw (next_public done conn fid) refl
next_public (OfTalk talker call ∷ done) conn fid = next_public done conn fid
next_public (Raised talker ∷ done) conn fid = next_public done conn fid
next_public (HandedOut ∷ done) conn fid = next_public done conn fid
next_public (DropTaken ∷ done) conn fid = next_public done conn fid
next_public (OfPrompts about doing ∷ done) conn fid = next_public done conn fid
next_public (OfLog doing ∷ done) conn fid = next_public done conn fid
next_public (Swept ∷ done) conn fid = next_public done conn fid
next_public (Halted ∷ done) conn fid = refl

pub holder_public : (done : List Deed) (node : Node) → holder_of (in_public done) node ≡ holder_of done node
holder_public [] node = refl
holder_public (OfFids at (Versioned msize) ∷ done) node = rw (holder_public done node) refl
holder_public (OfFids at (Attached f) ∷ done) node = holder_public done node
holder_public (OfFids at (Walked f to) ∷ done) node = holder_public done node
holder_public (OfFids at (Opened f mode) ∷ done) node = rw (fid_public done at f, holder_public done node) refl
holder_public (OfFids at (Listed f) ∷ done) node = holder_public done node
holder_public (OfFids at (Browsed f place) ∷ done) node = holder_public done node
holder_public (OfFids at (Clunked f) ∷ done) node = rw (holder_public done node) refl
holder_public (OfKeys at (Edited edit) ∷ done) node = holder_public done node
holder_public (OfKeys at Switched ∷ done) node = holder_public done node
holder_public (OfReplies at (Answered tag body) ∷ done) node = holder_public done node
holder_public (OfReplies at (Awaited tag f count) ∷ done) node = holder_public done node
holder_public (OfReplies at (Settled tag body) ∷ done) node = holder_public done node
holder_public (OfReplies at (Flushed tag) ∷ done) node = holder_public done node
holder_public (OfReplies at Taken ∷ done) node = holder_public done node
holder_public (OfConnection at Entered ∷ done) node = holder_public done node
holder_public (OfConnection at Hung ∷ done) node = rw (holder_public done node) refl
holder_public (OfTalk talker call ∷ done) node = holder_public done node
holder_public (Raised talker ∷ done) node = holder_public done node
holder_public (HandedOut ∷ done) node = holder_public done node
holder_public (DropTaken ∷ done) node = holder_public done node
holder_public (OfPrompts about doing ∷ done) node = holder_public done node
holder_public (OfLog doing ∷ done) node = holder_public done node
holder_public (Swept ∷ done) node = holder_public done node
holder_public (Halted ∷ done) node = refl

pub text_public : (done : List Deed) → all_open done ≡ true → (conn fid : ℕ) → text_of (in_public done) conn fid ≡ text_of done conn fid
text_public [] o conn fid = refl
text_public (OfFids at (Versioned msize) ∷ done) o conn fid = rw (text_public done o conn fid) refl
text_public (OfFids at (Attached f) ∷ done) o conn fid = rw (text_public done o conn fid) refl
text_public (OfFids at (Walked f to) ∷ done) o conn fid = rw (text_public done o conn fid) refl
text_public (OfFids at (Opened f mode) ∷ done) o conn fid = text_public done o conn fid
text_public (OfFids at (Listed f) ∷ done) o conn fid = rw (shown_public done o, text_public done o conn fid) refl
text_public (OfFids at (Browsed f place) ∷ done) o conn fid = text_public done o conn fid
text_public (OfFids at (Clunked f) ∷ done) o conn fid = rw (text_public done o conn fid) refl
text_public (OfKeys at (Edited edit) ∷ done) o conn fid = text_public done (and_parts (is_open_edit edit) (all_open done) o).1 conn fid
text_public (OfKeys at Switched ∷ done) o conn fid = text_public done o conn fid
text_public (OfReplies at (Answered tag body) ∷ done) o conn fid = text_public done o conn fid
text_public (OfReplies at (Awaited tag f count) ∷ done) o conn fid = text_public done o conn fid
text_public (OfReplies at (Settled tag body) ∷ done) o conn fid = text_public done o conn fid
text_public (OfReplies at (Flushed tag) ∷ done) o conn fid = text_public done o conn fid
text_public (OfReplies at Taken ∷ done) o conn fid = text_public done o conn fid
text_public (OfConnection at Entered ∷ done) o conn fid = text_public done o conn fid
text_public (OfConnection at Hung ∷ done) o conn fid = rw (text_public done o conn fid) refl
text_public (OfTalk talker call ∷ done) o conn fid = text_public done o conn fid
text_public (Raised talker ∷ done) o conn fid = text_public done o conn fid
text_public (HandedOut ∷ done) o conn fid = text_public done o conn fid
text_public (DropTaken ∷ done) o conn fid = text_public done o conn fid
text_public (OfPrompts about doing ∷ done) o conn fid = text_public done o conn fid
text_public (OfLog doing ∷ done) o conn fid = text_public done o conn fid
text_public (Swept ∷ done) o conn fid = text_public done o conn fid
text_public (Halted ∷ done) o conn fid = refl

pub prompts_public : (done : List Deed) (of : PromptKind) → prompt_calls (in_public done) of ≡ prompt_calls done of
prompts_public [] of = refl
prompts_public (OfFids at (Versioned msize) ∷ done) of = prompts_public done of
prompts_public (OfFids at (Attached f) ∷ done) of = prompts_public done of
prompts_public (OfFids at (Walked f to) ∷ done) of = prompts_public done of
prompts_public (OfFids at (Opened f mode) ∷ done) of = prompts_public done of
prompts_public (OfFids at (Listed f) ∷ done) of = prompts_public done of
prompts_public (OfFids at (Browsed f place) ∷ done) of = prompts_public done of
prompts_public (OfFids at (Clunked f) ∷ done) of = prompts_public done of
prompts_public (OfKeys at (Edited edit) ∷ done) of = prompts_public done of
prompts_public (OfKeys at Switched ∷ done) of = prompts_public done of
prompts_public (OfReplies at (Answered tag body) ∷ done) of = prompts_public done of
prompts_public (OfReplies at (Awaited tag f count) ∷ done) of = prompts_public done of
prompts_public (OfReplies at (Settled tag body) ∷ done) of = prompts_public done of
prompts_public (OfReplies at (Flushed tag) ∷ done) of = prompts_public done of
prompts_public (OfReplies at Taken ∷ done) of = prompts_public done of
prompts_public (OfConnection at Entered ∷ done) of = prompts_public done of
prompts_public (OfConnection at Hung ∷ done) of = prompts_public done of
prompts_public (OfTalk talker call ∷ done) of = prompts_public done of
prompts_public (Raised talker ∷ done) of = prompts_public done of
prompts_public (HandedOut ∷ done) of = prompts_public done of
prompts_public (DropTaken ∷ done) of = prompts_public done of
prompts_public (OfPrompts about doing ∷ done) of = rw (prompts_public done of) refl
prompts_public (OfLog doing ∷ done) of = prompts_public done of
prompts_public (Swept ∷ done) of = prompts_public done of
prompts_public (Halted ∷ done) of = refl

pub log_public : (done : List Deed) → log_calls (in_public done) ≡ log_calls done
log_public [] = refl
log_public (OfFids at (Versioned msize) ∷ done) = log_public done
log_public (OfFids at (Attached f) ∷ done) = log_public done
log_public (OfFids at (Walked f to) ∷ done) = log_public done
log_public (OfFids at (Opened f mode) ∷ done) = log_public done
log_public (OfFids at (Listed f) ∷ done) = log_public done
log_public (OfFids at (Browsed f place) ∷ done) = log_public done
log_public (OfFids at (Clunked f) ∷ done) = log_public done
log_public (OfKeys at (Edited edit) ∷ done) = log_public done
log_public (OfKeys at Switched ∷ done) = log_public done
log_public (OfReplies at (Answered tag body) ∷ done) = log_public done
log_public (OfReplies at (Awaited tag f count) ∷ done) = log_public done
log_public (OfReplies at (Settled tag body) ∷ done) = log_public done
log_public (OfReplies at (Flushed tag) ∷ done) = log_public done
log_public (OfReplies at Taken ∷ done) = log_public done
log_public (OfConnection at Entered ∷ done) = log_public done
log_public (OfConnection at Hung ∷ done) = log_public done
log_public (OfTalk talker call ∷ done) = log_public done
log_public (Raised talker ∷ done) = log_public done
log_public (HandedOut ∷ done) = log_public done
log_public (DropTaken ∷ done) = log_public done
log_public (OfPrompts about doing ∷ done) = log_public done
log_public (OfLog doing ∷ done) = rw (log_public done) refl
log_public (Swept ∷ done) = log_public done
log_public (Halted ∷ done) = refl

-- ---- the reads that wait, whatever those are told that are settled

abbrev with_reply : Wait → Option RBody → Wait
with_reply wait o = record { tag = wait.tag; fid = wait.fid; count = wait.count; reply = o }

abbrev pub seen : Wait → Wait
seen wait = record { tag = wait.tag; fid = wait.fid; count = wait.count; reply = option_map (λ body. r.Flush) wait.reply }

abbrev pub saw : List Wait → List Wait
saw ws = map seen ws

seen_settled : (body : RBody) (w : Wait) → seen (settled_by body w) ≡ settled_by r.Flush (seen w)
seen_settled body w = by_reply w.reply
  where
    by_reply : (o : Option RBody) → with_reply w (option_map (λ b. r.Flush) (first_of body o)) ≡ with_reply w (first_of r.Flush (option_map (λ b. r.Flush) o))
    by_reply None = refl
    by_reply (Some first) = refl

saw_tag : (tag : ℕ) (body : RBody) (ws : List Wait) → saw (settle_tag tag body ws) ≡ settle_tag tag r.Flush (saw ws)
saw_tag tag body [] = refl
saw_tag tag body (w ∷ ws) = elim (cases_Bool (eqb w.tag tag)) [
  | inl e ↦ rw e (ap (λ (v : Wait). v ∷ saw ws) (seen_settled body w))
  | inr e ↦ rw e (ap (λ (vs : List Wait). seen w ∷ vs) (saw_tag tag body ws))
]

saw_fid : (fid : ℕ) (body : RBody) (ws : List Wait) → saw (map (settle_fid fid body) ws) ≡ map (settle_fid fid r.Flush) (saw ws)
saw_fid fid body [] = refl
saw_fid fid body (w ∷ ws) = elim (cases_Bool (eqb w.fid fid)) [
  | inl e ↦ rw (e, saw_fid fid body ws) (ap (λ (v : Wait). v ∷ map (settle_fid fid r.Flush) (saw ws)) (seen_settled body w))
  | inr e ↦ rw (e, saw_fid fid body ws) refl
]

saw_kept : (keep : Wait → Bool) (ws : List Wait) → ((w : Wait) → keep (seen w) ≡ keep w) → saw (filter keep ws) ≡ filter keep (saw ws)
saw_kept keep [] same = refl
saw_kept keep (w ∷ ws) same = elim (cases_Bool (keep w)) [
  | inl e ↦ rw (same w, e) (ap (λ (vs : List Wait). seen w ∷ vs) (saw_kept keep ws same))
  | inr e ↦ rw (same w, e) (saw_kept keep ws same)
]

pub seen_unsettled : (w : Wait) → is_unsettled (seen w) ≡ is_unsettled w
seen_unsettled w = by_reply w.reply
  where
    by_reply : (o : Option RBody) → not (is_some (option_map (λ b. r.Flush) o)) ≡ not (is_some o)
    by_reply None = refl
    by_reply (Some first) = refl

either_saw : (b : Bool) (one other xs ys : List Wait) → saw one ≡ saw other → saw xs ≡ saw ys → saw (cond b one xs) ≡ saw (cond b other ys)
either_saw true one other xs ys e f = e
either_saw false one other xs ys e f = f

tag_saw : (tag : ℕ) (body other : RBody) (xs ys : List Wait) → saw xs ≡ saw ys → saw (settle_tag tag body xs) ≡ saw (settle_tag tag other ys)
tag_saw tag body other xs ys e = saw_tag tag body xs ∙ ap (settle_tag tag r.Flush) e ∙ sym (saw_tag tag other ys)

fid_saw : (fid : ℕ) (xs ys : List Wait) → saw xs ≡ saw ys → saw (map (settle_fid fid fid_given_up) xs) ≡ saw (map (settle_fid fid fid_given_up) ys)
fid_saw fid xs ys e = saw_fid fid fid_given_up xs ∙ ap (map (settle_fid fid r.Flush)) e ∙ sym (saw_fid fid fid_given_up ys)

kept_saw : (keep : Wait → Bool) (xs ys : List Wait) → ((w : Wait) → keep (seen w) ≡ keep w) → saw xs ≡ saw ys → saw (filter keep xs) ≡ saw (filter keep ys)
kept_saw keep xs ys same e = saw_kept keep xs same ∙ ap (filter keep) e ∙ sym (saw_kept keep ys same)

append_saw : (xs ys : List Wait) (w : Wait) → saw xs ≡ saw ys → saw (xs ++ w ∷ []) ≡ saw (ys ++ w ∷ [])
append_saw xs ys w e = map-append seen xs (w ∷ []) ∙ ap (λ (vs : List Wait). vs ++ seen w ∷ []) e ∙ sym (map-append seen ys (w ∷ []))

pub waits_public : (done : List Deed) (conn : ℕ) → saw (waits (in_public done) conn) ≡ saw (waits done conn)
waits_public [] conn = refl
waits_public (OfFids at (Versioned msize) ∷ done) conn = either_saw (eqb at conn) [] [] (waits (in_public done) conn) (waits done conn) refl (waits_public done conn)
waits_public (OfFids at (Attached f) ∷ done) conn = waits_public done conn
waits_public (OfFids at (Walked f to) ∷ done) conn = waits_public done conn
waits_public (OfFids at (Opened f mode) ∷ done) conn = waits_public done conn
waits_public (OfFids at (Listed f) ∷ done) conn = waits_public done conn
waits_public (OfFids at (Browsed f place) ∷ done) conn = waits_public done conn
waits_public (OfFids at (Clunked f) ∷ done) conn = either_saw (eqb at conn) _ _ (waits (in_public done) conn) (waits done conn) (fid_saw f (waits (in_public done) conn) (waits done conn) (waits_public done conn)) (waits_public done conn)
waits_public (OfKeys at (Edited edit) ∷ done) conn = waits_public done conn
waits_public (OfKeys at Switched ∷ done) conn = waits_public done conn
waits_public (OfReplies at (Answered tag body) ∷ done) conn = waits_public done conn
waits_public (OfReplies at (Awaited tag f count) ∷ done) conn = either_saw (eqb at conn) _ _ (waits (in_public done) conn) (waits done conn) (append_saw (waits (in_public done) conn) (waits done conn) (record { tag = tag; fid = f; count = count; reply = None }) (waits_public done conn)) (waits_public done conn)
waits_public (OfReplies at (Settled tag body) ∷ done) conn = either_saw (eqb at conn) _ _ (waits (in_public done) conn) (waits done conn) (tag_saw tag r.Flush body (waits (in_public done) conn) (waits done conn) (waits_public done conn)) (waits_public done conn)
waits_public (OfReplies at (Flushed tag) ∷ done) conn = either_saw (eqb at conn) _ _ (waits (in_public done) conn) (waits done conn) (kept_saw (λ wait. not (eqb wait.tag tag)) (waits (in_public done) conn) (waits done conn) (λ v. refl) (waits_public done conn)) (waits_public done conn)
waits_public (OfReplies at Taken ∷ done) conn = waits_public done conn
waits_public (OfConnection at Entered ∷ done) conn = waits_public done conn
waits_public (OfConnection at Hung ∷ done) conn = either_saw (eqb at conn) [] [] (waits (in_public done) conn) (waits done conn) refl (waits_public done conn)
waits_public (OfTalk talker call ∷ done) conn = waits_public done conn
waits_public (Raised talker ∷ done) conn = waits_public done conn
waits_public (HandedOut ∷ done) conn = waits_public done conn
waits_public (DropTaken ∷ done) conn = waits_public done conn
waits_public (OfPrompts about doing ∷ done) conn = waits_public done conn
waits_public (OfLog doing ∷ done) conn = waits_public done conn
waits_public (Swept ∷ done) conn = kept_saw is_unsettled (waits (in_public done) conn) (waits done conn) seen_unsettled (waits_public done conn)
waits_public (Halted ∷ done) conn = refl

-- ---- the same, whatever their sizes are

abbrev pub bare : Wait → Wait
bare wait = record { tag = wait.tag; fid = wait.fid; count = 0; reply = wait.reply }

abbrev pub plain : Wait → Wait
plain wait = bare (seen wait)

abbrev pub plains : List Wait → List Wait
plains ws = map plain ws

pub plains_so : (ws : List Wait) → plains ws ≡ map bare (saw ws)
plains_so [] = refl
plains_so (w ∷ ws) = ap (λ (vs : List Wait). plain w ∷ vs) (plains_so ws)

pub plain_length : (ws : List Wait) → length (plains ws) ≡ length ws
plain_length [] = refl
plain_length (w ∷ ws) = ap suc (plain_length ws)

any_plain : (tag : ℕ) (ws : List Wait) → list_any (λ w. eqb w.tag tag) (plains ws) ≡ list_any (λ w. eqb w.tag tag) ws
any_plain tag [] = refl
any_plain tag (w ∷ ws) = ap (λ (b : Bool). eqb w.tag tag || b) (any_plain tag ws)

-- ---- two lists of deeds that are the same in public

-- what is asked of the deeds by reads of other files than rpc
pub record PublicSight (a b : List Deed) : Type 0 where
  pub msizes : (conn : ℕ) → msize_of a conn ≡ msize_of b conn
  pub fids : (conn fid : ℕ) → fid_of a conn fid ≡ fid_of b conn fid
  pub nexts : (conn fid : ℕ) → next_of a conn fid ≡ next_of b conn fid
  pub texts : (conn fid : ℕ) → text_of a conn fid ≡ text_of b conn fid
  pub shown : list_text (keys_of a) ≡ list_text (keys_of b)
  pub waiting : (conn : ℕ) → plains (waits a conn) ≡ plains (waits b conn)
  pub prompting : (of : PromptKind) → prompt_calls a of ≡ prompt_calls b of
  pub logging : log_calls a ≡ log_calls b

both : {X : Type 0} (f : List Deed → X) → ((done : List Deed) → all_open done ≡ true → f (in_public done) ≡ f done) → (a b : List Deed) → all_open a ≡ true → all_open b ≡ true → in_public a ≡ in_public b → f a ≡ f b
both f h a b o u e = sym (h a o) ∙ ap f e ∙ h b u

pub public_sight : (a b : List Deed) → all_open a ≡ true → all_open b ≡ true → in_public a ≡ in_public b → PublicSight a b
public_sight a b o u e = record {
  msizes = λ conn. both (λ done. msize_of done conn) (λ done o. msize_public done conn) a b o u e;
  fids = λ conn fid. both (λ done. fid_of done conn fid) (λ done o. fid_public done conn fid) a b o u e;
  nexts = λ conn fid. both (λ done. next_of done conn fid) (λ done o. next_public done conn fid) a b o u e;
  texts = λ conn fid. both (λ done. text_of done conn fid) (λ done o. text_public done o conn fid) a b o u e;
  shown = both (λ done. list_text (keys_of done)) shown_public a b o u e;
  waiting = λ conn. plains_so (waits a conn) ∙ ap (map bare) (both (λ done. saw (waits done conn)) (λ done o. waits_public done conn) a b o u e) ∙ sym (plains_so (waits b conn));
  prompting = λ of. both (λ done. prompt_calls done of) (λ done o. prompts_public done of) a b o u e;
  logging = both log_calls (λ done o. log_public done) a b o u e;
}

-- ---- reads

pub lines_alike : (a b : List Deed) → PublicSight a b → (node : Node) → lines_in a node ≡ lines_in b node
lines_alike a b s Confirm = ap (λ (cs : List side.Call). unread_lines (side.after k.Confirm cs)) (s.prompting k.Confirm)
lines_alike a b s Needkey = ap (λ (cs : List side.Call). unread_lines (side.after k.Needkey cs)) (s.prompting k.Needkey)
lines_alike a b s Log = ap side.held s.logging
lines_alike a b s Root = refl
lines_alike a b s Factotum = refl
lines_alike a b s Rpc = refl
lines_alike a b s Ctl = refl
lines_alike a b s Proto = refl

pub any_saw : (tag : ℕ) (ws : List Wait) → list_any (λ w. eqb w.tag tag) (saw ws) ≡ list_any (λ w. eqb w.tag tag) ws
any_saw tag [] = refl
any_saw tag (w ∷ ws) = ap (λ (b : Bool). eqb w.tag tag || b) (any_saw tag ws)

pub as_many : (a b : List Deed) → PublicSight a b → (conn : ℕ) → length (waits a conn) ≡ length (waits b conn)
as_many a b s conn = sym (plain_length (waits a conn)) ∙ ap length (s.waiting conn) ∙ plain_length (waits b conn)

pub tag_taken : (a b : List Deed) → PublicSight a b → (conn tag : ℕ) → waits_under a conn tag ≡ waits_under b conn tag
tag_taken a b s conn tag = sym (any_plain tag (waits a conn)) ∙ ap (list_any (λ w. eqb w.tag tag)) (s.waiting conn) ∙ any_plain tag (waits b conn)

came_saw : (ws : List Wait) → map as_it_came (saw ws) ≡ map as_it_came ws
came_saw [] = refl
came_saw (w ∷ ws) = ap (λ (vs : List Wait). as_it_came w ∷ vs) (came_saw ws)

pub wait_alike : (one other : List Wait) → saw one ≡ saw other → map as_it_came one ≡ map as_it_came other
wait_alike one other e = sym (came_saw one) ∙ ap (map as_it_came) e ∙ came_saw other

-- a read that isn't settled is as it came
came_step : (w : Wait) (o : Option RBody) → w.reply ≡ o → not (is_some o) ≡ true → as_it_came w ≡ w
came_step w (Some body) e un = absurd cc
came_step w None e un = ap (with_reply w) (sym e)

unsettled_came : (ws : List Wait) → list_all is_unsettled ws ≡ true → map as_it_came ws ≡ ws
unsettled_came [] h = refl
unsettled_came (w ∷ ws) h =
    let parts = and_parts (is_unsettled w) (list_all is_unsettled ws) h in
    ap (λ (v : Wait). v ∷ map as_it_came ws) (came_step w w.reply refl parts.0) ∙ ap (λ (vs : List Wait). w ∷ vs) (unsettled_came ws parts.1)

-- of another file than rpc no test asks how a conversation stands
pub refusal_public : (a b : List Deed) → PublicSight a b → (call : Call) (fid offset count : ℕ) → is_rpc (node_of (fid_of b call.conn fid)) ≡ false → refusal a call (t.Read fid offset count) ≡ refusal b call (t.Read fid offset count)
unfolding refusal
refusal_public a b s call fid offset count other =
    rw (s.fids call.conn fid, other, s.nexts call.conn fid, as_many a b s call.conn, s.msizes call.conn, lines_alike a b s (node_of (fid_of b call.conn fid))) refl

pub granted_public : (a b : List Deed) → PublicSight a b → (call : Call) (fid offset count : ℕ) → is_rpc (node_of (fid_of b call.conn fid)) ≡ false → granted_body a call (t.Read fid offset count) ≡ granted_body b call (t.Read fid offset count)
granted_public a b s call fid offset count other = rw (s.msizes call.conn, tag_taken a b s call.conn call.tag, refusal_public a b s call fid offset count other) refl

content_public : (a b : List Deed) → PublicSight a b → (conn fid offset count : ℕ) (node : Node) → content_of a conn fid offset count node ≡ content_of b conn fid offset count node
content_public a b s conn fid offset count Root = refl
content_public a b s conn fid offset count Factotum = refl
content_public a b s conn fid offset count Ctl = rw (s.shown, s.texts conn fid) refl
content_public a b s conn fid offset count Proto = refl
content_public a b s conn fid offset count Rpc = refl
content_public a b s conn fid offset count Confirm = refl
content_public a b s conn fid offset count Needkey = refl
content_public a b s conn fid offset count Log = refl

read_public : (a b : List Deed) → PublicSight a b → (call : Call) (fid offset count : ℕ) → is_rpc (node_of (fid_of b call.conn fid)) ≡ false → reply_of a call (t.Read fid offset count) ≡ reply_of b call (t.Read fid offset count)
unfolding reply_of
read_public a b s call fid offset count other =
    rw (s.fids call.conn fid, other, s.msizes call.conn, lines_alike a b s (node_of (fid_of b call.conn fid)), content_public a b s call.conn fid offset (effective count (msize_of b call.conn)) (node_of (fid_of b call.conn fid))) refl

-- what is made of a request that is a read
either_body : (a b : List Deed) (call : Call) (x y : Bool) (one other : List ℕ) (o : Option (List ℕ)) (body : TBody) → reply_of a call body ≡ reply_of b call body
    → body_for a call (cond x (Err one) (cond y (Err other) (unless_refused body o))) ≡ body_for b call (cond x (Err one) (cond y (Err other) (unless_refused body o)))
either_body a b call true y one other o body e = refl
either_body a b call false true one other o body e = refl
either_body a b call false false one other (Some text) body e = refl
either_body a b call false false one other None body e = e

body_for_public : (a b : List Deed) → PublicSight a b → (call : Call) (fid offset count : ℕ) → is_rpc (node_of (fid_of b call.conn fid)) ≡ false
    → body_for a call (granted_body a call (t.Read fid offset count)) ≡ body_for b call (granted_body b call (t.Read fid offset count))
body_for_public a b s call fid offset count other =
    ap (body_for a call) (granted_public a b s call fid offset count other)
    ∙ either_body a b call (lacks_version b call (t.Read fid offset count)) (repeats_tag b call (t.Read fid offset count)) _ _ (refusal b call (t.Read fid offset count)) (t.Read fid offset count) (read_public a b s call fid offset count other)

either_frame : (a b : List Deed) (call : Call) (x : Bool) (text : List ℕ) (g h : Result TBody (List ℕ)) → body_for a call g ≡ body_for b call h → body_for a call (cond x (Err text) g) ≡ body_for b call (cond x (Err text) h)
either_frame a b call true text g h e = refl
either_frame a b call false text g h e = e

pub body_to_public : (a b : List Deed) → PublicSight a b → (call : Call) (frame : List ℕ) (m : TMsg) (fid offset count : ℕ) → request_of frame ≡ Some m → m.body ≡ t.Read fid offset count → is_rpc (node_of (fid_of b call.conn fid)) ≡ false
    → body_to a call frame ≡ body_to b call frame
unfolding body_to granted
body_to_public a b s call frame m fid offset count is read other =
    ap (λ (o : Option ℕ). body_for a call (cond (is_over o frame) (Err (codes "message over msize")) (of_message a call (codes "bad message") (request_of frame)))) (s.msizes call.conn)
    ∙ either_frame a b call (is_over (msize_of b call.conn) frame) (codes "message over msize") (of_message a call (codes "bad message") (request_of frame)) (of_message b call (codes "bad message") (request_of frame))
    (ap (λ (o : Option TMsg). body_for a call (of_message a call (codes "bad message") o)) is
    ∙ ap (λ (body : TBody). body_for a call (granted_body a call body)) read
    ∙ body_for_public a b s call fid offset count other
    ∙ sym (ap (λ (body : TBody). body_for b call (granted_body b call body)) read)
    ∙ sym (ap (λ (o : Option TMsg). body_for b call (of_message b call (codes "bad message") o)) is))

-- ---- histories

pub reads_are_public : (H K : History) → in_public (deeds H) ≡ in_public (deeds K) → (call : Call) (frame : List ℕ) (m : TMsg) (fid offset count : ℕ) → request_of frame ≡ Some m → m.body ≡ t.Read fid offset count
    → is_rpc (node_of (fid_of (deeds K) call.conn fid)) ≡ false → body_to (deeds H) call frame ≡ body_to (deeds K) call frame
reads_are_public H K e call frame m fid offset count is read other =
    body_to_public (deeds H) (deeds K) (public_sight (deeds H) (deeds K) (deeds_open H) (deeds_open K) e) call frame m fid offset count is read other

-- reads that wait are as they came
pub waits_same : (one other : List Wait) → list_all is_unsettled one ≡ true → list_all is_unsettled other ≡ true → saw one ≡ saw other → one ≡ other
waits_same one other first second e = sym (unsettled_came one first) ∙ wait_alike one other e ∙ unsettled_came other second

pub waits_are_public : (H K : History) → in_public (deeds H) ≡ in_public (deeds K) → (conn : ℕ) → waits (deeds H) conn ≡ waits (deeds K) conn
waits_are_public H K e conn =
    waits_same (waits (deeds H) conn) (waits (deeds K) conn) (reads_wait H conn).unsettled (reads_wait K conn).unsettled
    (sym (waits_public (deeds H) conn) ∙ ap (λ (d : List Deed). saw (waits d conn)) e ∙ waits_public (deeds K) conn)
