-- All that events do is done deed by deed, each so tested as `Fits` says. What every such deed keeps holds of every
-- history.
use Rattle.std.proofs.Common.{◌≡◌, ℕ, ◌+◌, ◌≤◌, List, [], ◌∷◌, length, Bool, true, false, cond, eqb, ltb, ◌&&◌, ◌||◌, not, Option, Some, None, refl, sym, ap, subst, ◌∙◌, inl, inr, arith}
use Rattle.std.specs.Prelude.{◌⊎◌, Result, Ok, Err, is_some}
use Rattle.std.specs.List.{list_all, list_any, filter}
use Rattle.std.proofs.lemmas.Bool.{and_from, and_parts, eqb-true, ltb-true, not-true}
use Rattle.nine.specs.declared.message.TMsg.{TMsg}
use Rattle.nine.specs.declared.message.TBody.{TBody}
use Rattle.nine.specs.declared.message.TBody.TheVariants as t
use Rattle.nine.specs.declared.message.RMsg.{RMsg}
use Rattle.nine.specs.declared.message.RBody.{RBody}
use Rattle.nine.specs.Decoding.{request_of}
use Rattle.file_tree.specs.declared.tree.Node.{Node}
use Rattle.file_tree.specs.declared.tree.Node.TheVariants.{Root, Factotum, Rpc, Ctl, Confirm, Needkey, Proto, Log}
use Rattle.file_tree.specs.declared.tree.FidState.{FidState}
use Rattle.file_tree.specs.Tree.{is_exclusive, lead_to}
use Rattle.file_tree.specs.Directories.{dir_end}
use Rattle.file_tree.specs.Calls.{is_open, mode_of, node_of}
use Rattle.attr_tuples.proofs.EqualityLemmas.{eqb_swap}
use Rattle.key_lists.specs.CtlLines.{lines_of}
use Rattle.agent_history.specs.declared.event.Event.{Event}
use Rattle.agent_history.specs.declared.event.Event.TheVariants.{Request, Hang, Answer, NoAnswer, NoRoom, Take, TakeAsk, Stop}
use Rattle.side_files.specs.declared.line.PromptKind.{PromptKind}
use Rattle.side_files.specs.declared.line.PromptKind.TheVariants as pk
use Rattle.side_files.specs.declared.reply.Reply.{Reply}
use Rattle.side_files.specs.Calls as side
use Rattle.side_files.specs.Lines.{found}
use Rattle.side_files.specs.Questions.{asker_of}
use Rattle.side_files.specs.Replies as prompt
use Rattle.talks.specs.Requests as rpc
use Rattle.talks.specs.Calls as calls
use Rattle.talks.specs.Standings.{Phase, Resting, Waiting, Seeking, OnConfirm, OnNeedkey, OnServer, Kept, Standing, standing, then_stands}
use Rattle.agent_history.specs.Deeds.{Deed, OfFids, OfKeys, OfReplies, OfConnection, OfTalk, Raised, HandedOut, OfPrompts, OfLog, DropTaken, Swept, Halted, next_of, Versioned, Attached, Walked, Opened, Listed, Browsed, Clunked, Answered, Flushed, Taken, Entered, Hung, fid_of, holder_of, msize_of, is_halted, was_hung, was_opened}
use Rattle.agent_history.specs.Replies.{has_settled, swept, untaken, waits, waits_for, waits_under}
use Rattle.agent_history.specs.SideFiles.{all_served, is_line_file, kind_at, lines_in, prompts_of}
use Rattle.agent_history.specs.Conversations.{Question, Speaker, asker, all_withdrawn, closed, conv_of, delivered, ended_by, fits, given_up_by, met, then_logged, questions, resumed, speakers, talk, stands, Due, NoneDue, DropDue, QuestionDue, due}
use Rattle.agent_history.specs.Requests.{Call, least_msize, most_talks, most_waits, is_known, is_rpc, has_answer, is_resting, phase_of, refusal, agreed, lets_read, is_elsewhere, waits_enough, walking, reading, carrying_out, effective, finds_none, line_found, replying, said_by, after, granted_body, granted, lacks_version, repeats_tag, after_granted, after_frame, answered, comes_first, replied, body_to, call_of, is_over}
use Rattle.agent_history.specs.Histories.{History, deeds, does, entered, handing, most_events, taking}
use Rattle.agent_laws.specs.Laws.{all_asked, all_prompted, asks_server, is_on_server, may_wait_on, most_read}
use Rattle.agent_laws.proofs.AskLaws.{all_append, all_kept, all_weaker, asker_is_asked, handed_asks, none_left, or_more}
use Rattle.agent_laws.proofs.KindLaws.{asked_by_met, done_by_asked, met_by_handed, FitsIf, IsKnown, KeepsIf, KeepsOf, SizeFits, WaitFits, asked_of_said, done_by_said, done_by_told, fits_of, handed_of_met, is_asked, is_done, is_handed, is_met, is_said, is_told_so, lines_of_asked, met_of_asked, met_of_told, said_of_done, same_number, spoken_of_asked, told_of_said}
use Rattle.agent_laws.proofs.PromptLaws.{prompted_more}
use Rattle.agent_laws.proofs.MetLaws.{Sees, agreed_fits, all_served_grows, choice_none, closed_grows, delivered_grows, follows, given_up_grows, line_file_grows, lines_grow, no_attach_fault, no_fid_fault, no_open_fault, no_walk_fault, or_none, replying_grows, resumed_grows, stored_grows, talk_grows, then_logged_grows, withdrawn_fid, withdrawn_grows, withdrawn_speakers}

-- ---- requests

walking_grows : (Known : Type 0) (P : List Deed → Type 0) (conn : ℕ) → KeepsIf Known (is_asked conn) P → (newfid : ℕ) (found : Option Node) (done : List Deed) → is_open (fid_of done conn newfid) ≡ false → P done → P (walking conn newfid found done)
walking_grows Known P conn k newfid None done f p = p
walking_grows Known P conn k newfid (Some node) done f p = k done (OfFids conn (Walked newfid node)) (same_number conn) f p

listing_grows : (Known : Type 0) (P : List Deed → Type 0) (conn : ℕ) → KeepsIf Known (is_asked conn) P → (fid : ℕ) (b : Bool) (done : List Deed) → P done → P (cond b (OfFids conn (Listed fid) ∷ done) done)
listing_grows Known P conn k fid true done p = k done (OfFids conn (Listed fid)) (same_number conn) tt p
listing_grows Known P conn k fid false done p = p

reading_grows : (Known : Type 0) (P : List Deed → Type 0) (conn : ℕ) → KeepsIf Known (is_asked conn) P → (fid offset count : ℕ) (node : Node) (done : List Deed) → P done → P (reading done conn fid offset count node)
reading_grows Known P conn k fid offset count Root done p = k done (OfFids conn (Browsed fid (dir_end Root offset count))) (same_number conn) tt p
reading_grows Known P conn k fid offset count Factotum done p = k done (OfFids conn (Browsed fid (dir_end Factotum offset count))) (same_number conn) tt p
reading_grows Known P conn k fid offset count Ctl done p = listing_grows Known P conn k fid (eqb offset 0) done p
reading_grows Known P conn k fid offset count Rpc done p = p
reading_grows Known P conn k fid offset count Confirm done p = p
reading_grows Known P conn k fid offset count Needkey done p = p
reading_grows Known P conn k fid offset count Proto done p = p
reading_grows Known P conn k fid offset count Log done p = p

pub either_way : (P : List Deed → Type 0) (b : Bool) (one other : List Deed) → P one → P other → P (cond b one other)
either_way P true one other p q = p
either_way P false one other p q = q

-- the same, where the first needs the test
where_so : (P : List Deed → Type 0) (b : Bool) (one other : List Deed) → (b ≡ true → P one) → P other → P (cond b one other)
where_so P true one other p q = p refl
where_so P false one other p q = q

pub not_false : (b : Bool) → not b ≡ false → b ≡ true
not_false true e = refl
not_false false e = absurd cc

-- a fid that is open on a file whose reads may wait
may_wait_there : (o : Option FidState) → (is_rpc (node_of o) || is_line_file (node_of o)) ≡ true → not (is_open o) ≡ false → may_wait_on o ≡ true
may_wait_there o e open_ = and_from (is_open o) _ (not_false (is_open o) open_) e

or_first : (a b : Bool) → a ≡ true → (a || b) ≡ true
or_first true b e = refl
or_first false b e = absurd cc

-- a file of lines is no file of conversations
pub line_file_no_rpc : (node : Node) → is_line_file node ≡ true → is_rpc node ≡ false
line_file_no_rpc Confirm e = refl
line_file_no_rpc Needkey e = refl
line_file_no_rpc Log e = refl
line_file_no_rpc Rpc e = absurd cc
line_file_no_rpc Root e = absurd cc
line_file_no_rpc Factotum e = absurd cc
line_file_no_rpc Ctl e = absurd cc
line_file_no_rpc Proto e = absurd cc

pub where_true : (b c : Bool) → b ≡ true → (b && c) ≡ false → c ≡ false
where_true true c e f = f
where_true false c e f = absurd cc

where_not : (b c : Bool) → b ≡ false → (not b && c) ≡ false → c ≡ false
where_not true c e f = absurd cc
where_not false c e f = f

effective_read : (count : ℕ) (o : Option ℕ) → effective count o ≤ most_read o
effective_read count None = omega arith
effective_read count (Some msize) = omega arith

-- a read of rpc that no test refuses may wait
abbrev pub read_count : List Deed → Call → ℕ → ℕ
read_count done call count = effective count (msize_of done call.conn)

-- a read of rpc that no test refuses has a request or an answer
pub is_pending : (done : List Deed) (call : Call) (fid offset count : ℕ) → refusal done call (t.Read fid offset count) ≡ None → is_rpc (node_of (fid_of done call.conn fid)) ≡ true → is_resting (phase_of done call.conn fid) ≡ false
unfolding refusal
is_pending done call fid offset count e is =
    let o = fid_of done call.conn fid in
    let node = node_of o in
    let one = choice_none (not (is_open o)) _ _ (or_none _ _ e).1 in
    let two = choice_none (not (lets_read (mode_of o))) _ _ one.1 in
    let three = choice_none (is_elsewhere node (next_of done call.conn fid) offset) _ _ two.1 in
    let four = choice_none (is_rpc node && waits_for done call.conn fid) _ _ three.1 in
    where_true (is_rpc node) (is_resting (phase_of done call.conn fid)) is (choice_none (is_rpc node && is_resting (phase_of done call.conn fid)) _ _ four.1).0

pub read_waits : (done : List Deed) (call : Call) (fid offset count : ℕ) → refusal done call (t.Read fid offset count) ≡ None → waits_under done call.conn call.tag ≡ false → is_rpc (node_of (fid_of done call.conn fid)) ≡ true
    → has_answer (phase_of done call.conn fid) ≡ false → WaitFits done call.conn call.tag fid (read_count done call count)
unfolding refusal
read_waits done call fid offset count e unused is none =
    let o = fid_of done call.conn fid in
    let node = node_of o in
    let one = choice_none (not (is_open o)) _ _ (or_none _ _ e).1 in
    let two = choice_none (not (lets_read (mode_of o))) _ _ one.1 in
    let three = choice_none (is_elsewhere node (next_of done call.conn fid) offset) _ _ two.1 in
    let four = choice_none (is_rpc node && waits_for done call.conn fid) _ _ three.1 in
    let five = choice_none (is_rpc node && is_resting (phase_of done call.conn fid)) _ _ four.1 in
    let six = choice_none (is_rpc node && (not (has_answer (phase_of done call.conn fid)) && waits_enough done call.conn)) _ _ five.1 in
    let room = where_not (has_answer (phase_of done call.conn fid)) (waits_enough done call.conn) none (where_true (is_rpc node) _ is six.0) in
    record {
      opened = may_wait_there o (or_first (is_rpc node) (is_line_file node) is) one.0;
      free = λ named. where_true (is_rpc node) (waits_for done call.conn fid) is four.0;
      unused = unused;
      few = ltb-true (length (waits done call.conn)) most_waits (not_false (ltb (length (waits done call.conn)) most_waits) room);
      size = effective_read count (msize_of done call.conn);
    }

-- a read of a file of lines that no test refuses may wait where no line is there
pub line_read_waits : (done : List Deed) (call : Call) (fid offset count : ℕ) → refusal done call (t.Read fid offset count) ≡ None → waits_under done call.conn call.tag ≡ false → is_line_file (node_of (fid_of done call.conn fid)) ≡ true
    → finds_none (line_found done call count (node_of (fid_of done call.conn fid))) ≡ true → WaitFits done call.conn call.tag fid (read_count done call count)
unfolding refusal
line_read_waits done call fid offset count e unused is none =
    let o = fid_of done call.conn fid in
    let node = node_of o in
    let one = choice_none (not (is_open o)) _ _ (or_none _ _ e).1 in
    let two = choice_none (not (lets_read (mode_of o))) _ _ one.1 in
    let three = choice_none (is_elsewhere node (next_of done call.conn fid) offset) _ _ two.1 in
    let four = choice_none (is_rpc node && waits_for done call.conn fid) _ _ three.1 in
    let five = choice_none (is_rpc node && is_resting (phase_of done call.conn fid)) _ _ four.1 in
    let six = choice_none (is_rpc node && (not (has_answer (phase_of done call.conn fid)) && waits_enough done call.conn)) _ _ five.1 in
    let seven = choice_none (is_line_file node && (finds_none (line_found done call count node) && waits_enough done call.conn)) _ _ six.1 in
    let room = where_true (finds_none (line_found done call count node)) (waits_enough done call.conn) none (where_true (is_line_file node) _ is seven.0) in
    record {
      opened = may_wait_there o (or_more (is_rpc node) (is_line_file node) is) one.0;
      free = λ named. absurd (let no_way : true ≡ false = sym named ∙ line_file_no_rpc node is in cc);
      unused = unused;
      few = ltb-true (length (waits done call.conn)) most_waits (not_false (ltb (length (waits done call.conn)) most_waits) room);
      size = effective_read count (msize_of done call.conn);
    }

-- a read is no request whose tag isn't asked about
pub not_first : (under : Bool) → under ≡ false ⊎ (false ≡ true) → under ≡ false
not_first under (inl free) = free
not_first under (inr no_way) = absurd cc

pub fid_deed_speakers : (conn fid : ℕ) (done d : List Deed) → speakers d ≡ speakers done → speakers (OfFids conn (Clunked fid) ∷ d) ≡ speakers (OfFids conn (Clunked fid) ∷ done)
fid_deed_speakers conn fid done d e = ap (λ (ss : List Speaker). filter (λ (s : Speaker). not (eqb s.conn conn && eqb s.fid fid)) ss) e

pub version_speakers : (conn : ℕ) (msize : Option ℕ) (done d : List Deed) → speakers d ≡ speakers done → speakers (OfFids conn (Versioned msize) ∷ d) ≡ speakers (OfFids conn (Versioned msize) ∷ done)
version_speakers conn msize done d e = ap (λ (ss : List Speaker). filter (λ (s : Speaker). not (eqb s.conn conn)) ss) e

-- a fid is given up
clunk_grows : (Known : Type 0) (P : List Deed → Type 0) (conn : ℕ) → Sees Known P → KeepsIf Known (is_asked conn) P → (fid : ℕ) (done : List Deed) → is_some (fid_of done conn fid) ≡ true → P done → P (given_up_by (OfFids conn (Clunked fid)) done)
clunk_grows Known P conn sees k fid done there p =
    let deed = OfFids conn (Clunked fid) in
    let d = all_withdrawn (ended_by deed done) done in
    given_up_grows Known P sees (handed_of_met Known P (met_of_asked Known P conn k)) deed done (fid_deed_speakers conn fid done d (withdrawn_speakers (ended_by deed done) done))
    (λ stay q. k d deed (same_number conn) (ap is_some (withdrawn_fid (ended_by deed done) done conn fid) ∙ there, stay) q) p

version_grows : (Known : Type 0) (P : List Deed → Type 0) (conn : ℕ) → Sees Known P → KeepsIf Known (is_asked conn) P → (msize : Option ℕ) (done : List Deed) → SizeFits msize → P done → P (given_up_by (OfFids conn (Versioned msize)) done)
version_grows Known P conn sees k msize done fits p =
    let deed = OfFids conn (Versioned msize) in
    let d = all_withdrawn (ended_by deed done) done in
    given_up_grows Known P sees (handed_of_met Known P (met_of_asked Known P conn k)) deed done (version_speakers conn msize done d (withdrawn_speakers (ended_by deed done) done))
    (λ stay q. k d deed (same_number conn) (fits, stay) q) p

pub body_grows : (Known : Type 0) (P : List Deed → Type 0) (call : Call) → Sees Known P → KeepsIf Known (is_asked call.conn) P → (done : List Deed) (body : TBody)
    → refusal done call body ≡ None → waits_under done call.conn call.tag ≡ false ⊎ (comes_first body ≡ true) → P done → P (after done call body)
unfolding after refusal
body_grows Known P call sees k done (t.Version msize version) e unused p = version_grows Known P call.conn sees k (agreed msize version) done (agreed_fits msize (is_known version) (choice_none (ltb msize least_msize) _ _ e).0) p
body_grows Known P call sees k done (t.Auth afid uname aname) e unused p = p
body_grows Known P call sees k done (t.Attach fid afid uname aname) e unused p = k done (OfFids call.conn (Attached fid)) (same_number call.conn) (no_attach_fault _ _ (or_none _ _ e).1) p
body_grows Known P call sees k done (t.Flush oldtag) e unused p = k done (OfReplies call.conn (Flushed oldtag)) (same_number call.conn) tt p
body_grows Known P call sees k done (t.Walk fid newfid wname) e unused p =
    walking_grows Known P call.conn k newfid (lead_to (node_of (fid_of done call.conn fid)) wname) done
    (no_walk_fault (fid_of done call.conn fid) (fid_of done call.conn newfid) (eqb fid newfid) _ wname (λ same. ap (fid_of done call.conn) (sym (eqb-true fid newfid same))) e) p
body_grows Known P call sees k done (t.Open fid mode) e unused p =
    let node = node_of (fid_of done call.conn fid) in
    let parts = or_none _ _ e in
    let fits = no_open_fault (fid_of done call.conn fid) mode parts.0 in
    let alone = choice_none (is_exclusive node && is_some (holder_of done node)) _ _ parts.1 in
    let room = choice_none (is_rpc node && not (ltb (length (speakers done)) most_talks)) _ _ alone.1 in
    k done (OfFids call.conn (Opened fid mode)) (same_number call.conn) (record { named = fits.0; rests = fits.1; free = alone.0; room = room.0 }) p
body_grows Known P call sees k done (t.Create fid name perm mode) e unused p = p
body_grows Known P call sees k done (t.Read fid offset count) e unused p =
    let node = node_of (fid_of done call.conn fid) in
    let most = read_count done call count in
    let free = not_first (waits_under done call.conn call.tag) unused in
    where_so P (is_rpc node) _ _
    (λ is. talk_grows Known P call sees (spoken_of_asked Known P call.conn k) fid most (conv_of done call.conn fid) done refl (λ none. read_waits done call fid offset count e free is none) p)
    (where_so P (is_line_file node) _ (reading done call.conn fid offset most node)
    (λ is. line_file_grows Known P call (spoken_of_asked Known P call.conn k) fid most node (found most (lines_in done node)) done (λ none. line_read_waits done call fid offset count e free is none) p)
    (reading_grows Known P call.conn k fid offset most node done p))
body_grows Known P call sees k done (t.Write fid offset content) e unused p =
    either_way P (is_rpc (node_of (fid_of done call.conn fid))) _ _
    (stored_grows Known P call.conn (spoken_of_asked Known P call.conn k) (conv_of done call.conn fid) (rpc.request_of content) done p)
    (either_way P (is_some (kind_at (node_of (fid_of done call.conn fid)))) _ _
    (replying_grows Known P sees (met_of_asked Known P call.conn k) (kind_at (node_of (fid_of done call.conn fid))) (prompt.reply_of content) done p)
    (lines_grow P call.conn (lines_of_asked Known P call.conn k) (lines_of content) done p))
body_grows Known P call sees k done (t.Clunk fid) e unused p = clunk_grows Known P call.conn sees k fid done (no_fid_fault _ (or_none _ _ e).0) p
body_grows Known P call sees k done (t.Remove fid) e unused p = clunk_grows Known P call.conn sees k fid done (no_fid_fault _ (or_none _ _ e).0) p
body_grows Known P call sees k done (t.Stat fid) e unused p = p
body_grows Known P call sees k done (t.Wstat fid stat) e unused p = p

-- ---- frames

abbrev pub unless_refused : TBody → Option (List ℕ) → Result TBody (List ℕ)
unless_refused body o = elim o [ Some text ↦ Err text | None ↦ Ok body ]

abbrev pub of_message : List Deed → Call → List ℕ → Option TMsg → Result TBody (List ℕ)
of_message done call text o = elim o [ None ↦ Err text | Some m ↦ granted_body done call m.body ]

no_refusal : (body other : TBody) (o : Option (List ℕ)) → unless_refused body o ≡ Ok other → (body ≡ other) × (o ≡ None)
no_refusal body other None e = let same : body ≡ other = cc in (same, refl)
no_refusal body other (Some text) e = absurd cc

passed : (b : Bool) (text : List ℕ) (r : Result TBody (List ℕ)) (body : TBody) → cond b (Err text) r ≡ Ok body → r ≡ Ok body
passed true text r body e = absurd cc
passed false text r body e = e

-- what is known of a request that no test refuses
pub record Passed (done : List Deed) (call : Call) (body : TBody) : Type 0 where
  pub none : refusal done call body ≡ None
  pub unused : waits_under done call.conn call.tag ≡ false ⊎ (comes_first body ≡ true)

-- the tag is free, where that is asked
tag_unused : (first under : Bool) → (not first && under) ≡ false → under ≡ false ⊎ (first ≡ true)
tag_unused true under e = inr refl
tag_unused false under e = inl e

passed_both : (b : Bool) (text : List ℕ) (r : Result TBody (List ℕ)) (body : TBody) → cond b (Err text) r ≡ Ok body → (b ≡ false) × (r ≡ Ok body)
passed_both true text r body e = absurd cc
passed_both false text r body e = (refl, e)

body_is_granted : (done : List Deed) (call : Call) (body other : TBody) → granted_body done call body ≡ Ok other → Passed done call other
body_is_granted done call body other e =
    let tag = passed_both (repeats_tag done call body) _ _ other (passed (lacks_version done call body) _ _ other e) in
    let parts = no_refusal body other (refusal done call body) tag.1 in
    subst (λ (b : TBody). Passed done call b) parts.0 (record { none = parts.1; unused = tag_unused (comes_first body) (waits_under done call.conn call.tag) tag.0 })

message_is_granted : (done : List Deed) (call : Call) (o : Option TMsg) (text : List ℕ) (body : TBody) → of_message done call text o ≡ Ok body → Passed done call body
message_is_granted done call None text body e = absurd cc
message_is_granted done call (Some m) text body e = body_is_granted done call m.body body e

pub none_refuses : (done : List Deed) (call : Call) (frame : List ℕ) (body : TBody) → granted done call frame ≡ Ok body → Passed done call body
unfolding granted
none_refuses done call frame body e =
    message_is_granted done call (request_of frame) _ body (passed (is_over (msize_of done call.conn) frame) _ _ body e)

granted_grows : (Known : Type 0) (P : List Deed → Type 0) (call : Call) → Sees Known P → KeepsIf Known (is_asked call.conn) P → (done : List Deed) (g : Result TBody (List ℕ))
    → ((body : TBody) → g ≡ Ok body → Passed done call body) → P done → P (after_granted done call g)
granted_grows Known P call sees k done (Err text) fits p = p
granted_grows Known P call sees k done (Ok body) fits p = let passes = fits body refl in body_grows Known P call sees k done body passes.none passes.unused p

frame_sees : (Known : Type 0) (P : List Deed → Type 0) (call : Call) → Sees Known P → KeepsIf Known (is_asked call.conn) P → (done : List Deed) (frame : List ℕ) → P done → P (after_frame done call frame)
unfolding after_frame
frame_sees Known P call sees k done frame p = granted_grows Known P call sees k done (granted done call frame) (none_refuses done call frame) p

-- ---- events

pub entered_grows : (Known : Type 0) (P : List Deed → Type 0) (conn : ℕ) → KeepsIf Known (is_said conn) P → (done : List Deed) → P done → P (entered conn done)
entered_grows Known P conn k done p = by_cases (was_opened done conn)
  where
    by_cases : (b : Bool) → P (cond b done (OfConnection conn Entered ∷ done))
    by_cases true = p
    by_cases false = k done (OfConnection conn Entered) (same_number conn) tt p

pub swept_grows : (Known : Type 0) (P : List Deed → Type 0) → KeepsIf Known is_told_so P → (done : List Deed) → P done → P (swept done)
swept_grows Known P k done p = by_cases (has_settled done)
  where
    by_cases : (b : Bool) → P (cond b (Swept ∷ done) done)
    by_cases true = k done Swept refl tt p
    by_cases false = p

taking_grows : (Known : Type 0) (P : List Deed → Type 0) (conn : ℕ) → KeepsIf Known (is_done conn) P → (left : List RMsg) (done : List Deed) → P done → P (taking conn left done)
taking_grows Known P conn k [] done p = p
taking_grows Known P conn k (reply ∷ rest) done p = k done (OfReplies conn Taken) (same_number conn) tt p

-- a request and its reply
replied_grows : (Known : Type 0) (P : List Deed → Type 0) (call : Call) → KeepsIf Known (is_said call.conn) P → (o : Option RBody) (done : List Deed) → P done → P (replied call o done)
replied_grows Known P call k None done p = p
replied_grows Known P call k (Some body) done p = k done (OfReplies call.conn (Answered call.tag body)) (same_number call.conn) tt p

answered_sees : (Known : Type 0) (P : List Deed → Type 0) (call : Call) → Sees Known P → KeepsIf Known (is_said call.conn) P → (done : List Deed) (frame : List ℕ) → P done → P (answered done call frame)
answered_sees Known P call sees k done frame p =
    replied_grows Known P call k (body_to done call frame) (after_frame done call frame) (frame_sees Known P call sees (asked_of_said Known P call.conn k) done frame p)

-- the authentication server is done with a question
server_said : (Known : Type 0) (P : List Deed → Type 0) → Sees Known P → KeepsIf Known is_met P → (number : ℕ) (came : calls.Call) (done : List Deed)
    → ((conv : ℕ) → list_any (λ q. eqb q.conv conv) (questions (OfTalk conv came ∷ done)) ≡ false) → ((conv : ℕ) → FitsIf Known done (OfTalk conv came)) → P done → P (resumed (asker done number) came done)
server_said Known P sees k number came done alone fits p =
    resumed_grows Known P sees k came (asker done number) done
    (λ conv e. ((λ known. (and_parts (stands done conv) (asks_server done conv) (asker_is_asked done number conv e (sees done p known).asked)).0), (λ known. alone conv), fits conv)) p

-- the connection of an event, of one that has none any
abbrev pub event_on : ℕ → Event → Type 0
event_on conn (Request at frame word) = at ≡ conn
event_on conn (Take at) = at ≡ conn
event_on conn (Hang at) = at ≡ conn
event_on conn event = Unit {0}

abbrev pub is_take : Event → Bool
is_take (Take at) = true
is_take TakeAsk = true
is_take event = false

request_does : (Known : Type 0) (P : List Deed → Type 0) (at : ℕ) → Sees Known P → KeepsIf Known (is_said at) P → (frame word : List ℕ) (done : List Deed) → P done → P (does done (Request at frame word))
request_does Known P at sees k frame word done p =
    let opened = entered at done in
    let call = call_of at frame word in
    either_way P (was_hung done at) done _ p
    (swept_grows Known P (told_of_said Known P at k) (answered opened call frame) (answered_sees Known P call sees k opened frame (entered_grows Known P at k done p)))

take_does : (Known : Type 0) (P : List Deed → Type 0) (at : ℕ) → KeepsIf Known (is_done at) P → (done : List Deed) → P done → P (does done (Take at))
take_does Known P at k done p =
    either_way P (was_hung done at) done _ p (taking_grows Known P at k (untaken done at) (entered at done) (entered_grows Known P at (said_of_done Known P at k) done p))

pub hang_speakers : (at : ℕ) (done d : List Deed) → speakers d ≡ speakers done → speakers (OfConnection at Hung ∷ d) ≡ speakers (OfConnection at Hung ∷ done)
hang_speakers at done d e = ap (λ (ss : List Speaker). filter (λ (s : Speaker). not (eqb s.conn at)) ss) e

hang_does : (Known : Type 0) (P : List Deed → Type 0) (at : ℕ) → Sees Known P → KeepsIf Known (is_said at) P → (done : List Deed) → P done → P (does done (Hang at))
hang_does Known P at sees k done p =
    let deed = OfConnection at Hung in
    let d = all_withdrawn (ended_by deed done) done in
    let told = told_of_said Known P at k in
    either_way P (was_opened done at && not (was_hung done at)) _ done
    (swept_grows Known P told (given_up_by deed done)
    (given_up_grows Known P sees (handed_of_met Known P (met_of_told Known P told)) deed done (hang_speakers at done d (withdrawn_speakers (ended_by deed done) done)) (λ stay q. k d deed (same_number at) stay q) p)) p

handing_does : (Known : Type 0) (P : List Deed → Type 0) (conn : ℕ) → KeepsIf Known (is_done conn) P → (o : Due) (done : List Deed) → P done → P (handing o done)
handing_does Known P conn k NoneDue done p = p
handing_does Known P conn k (DropDue drop) done p = k done DropTaken refl tt p
handing_does Known P conn k (QuestionDue question) done p = k done HandedOut refl tt p

-- what the authentication server's answer does, or that it didn't come
answer_sees : (Known : Type 0) (P : List Deed → Type 0) → Sees Known P → KeepsIf Known is_told_so P → (number : ℕ) (bytes : List ℕ) (done : List Deed) → P done → P (does done (Answer number bytes))
answer_sees Known P sees k number bytes done p = swept_grows Known P k _ (server_said Known P sees (met_of_told Known P k) number (calls.Heard bytes) done (λ conv. none_left (questions done) conv) (λ conv. tt) p)

no_answer_sees : (Known : Type 0) (P : List Deed → Type 0) → Sees Known P → KeepsIf Known is_told_so P → (number : ℕ) (done : List Deed) → P done → P (does done (NoAnswer number))
no_answer_sees Known P sees k number done p = swept_grows Known P k _ (server_said Known P sees (met_of_told Known P k) number calls.Unheard done (λ conv. none_left (questions done) conv) (λ conv. tt) p)

no_room_sees : (Known : Type 0) (P : List Deed → Type 0) → Sees Known P → KeepsIf Known is_told_so P → (number : ℕ) (done : List Deed) → P done → P (does done (NoRoom number))
no_room_sees Known P sees k number done p = swept_grows Known P k _ (server_said Known P sees (met_of_told Known P k) number calls.Roomless done (λ conv. none_left (questions done) conv) (λ conv. tt) p)

said_sees : (Known : Type 0) (P : List Deed → Type 0) (conn : ℕ) → Sees Known P → KeepsIf Known (is_said conn) P → (e : Event) (done : List Deed) → event_on conn e → is_take e ≡ false → P done → P (does done e)
said_sees Known P conn sees k (Request at frame word) done on none p = request_does Known P at sees (subst (λ (n : ℕ). KeepsIf Known (is_said n) P) (sym on) k) frame word done p
said_sees Known P conn sees k (Take at) done on none p = absurd cc
said_sees Known P conn sees k (Hang at) done on none p = hang_does Known P at sees (subst (λ (n : ℕ). KeepsIf Known (is_said n) P) (sym on) k) done p
said_sees Known P conn sees k Stop done on none p = k done Halted refl tt p
said_sees Known P conn sees k (Answer number bytes) done on none p = answer_sees Known P sees (told_of_said Known P conn k) number bytes done p
said_sees Known P conn sees k (NoAnswer number) done on none p = no_answer_sees Known P sees (told_of_said Known P conn k) number done p
said_sees Known P conn sees k (NoRoom number) done on none p = no_room_sees Known P sees (told_of_said Known P conn k) number done p
said_sees Known P conn sees k TakeAsk done on none p = absurd cc

event_sees : (Known : Type 0) (P : List Deed → Type 0) (conn : ℕ) → Sees Known P → KeepsIf Known (is_done conn) P → (e : Event) (done : List Deed) → event_on conn e → P done → P (does done e)
event_sees Known P conn sees k (Take at) done on p = take_does Known P at (subst (λ (n : ℕ). KeepsIf Known (is_done n) P) (sym on) k) done p
event_sees Known P conn sees k (Request at frame word) done on p = said_sees Known P conn sees (said_of_done Known P conn k) (Request at frame word) done on refl p
event_sees Known P conn sees k (Hang at) done on p = said_sees Known P conn sees (said_of_done Known P conn k) (Hang at) done on refl p
event_sees Known P conn sees k Stop done on p = said_sees Known P conn sees (said_of_done Known P conn k) Stop done on refl p
event_sees Known P conn sees k (Answer number bytes) done on p = said_sees Known P conn sees (said_of_done Known P conn k) (Answer number bytes) done on refl p
event_sees Known P conn sees k (NoAnswer number) done on p = said_sees Known P conn sees (said_of_done Known P conn k) (NoAnswer number) done on refl p
event_sees Known P conn sees k (NoRoom number) done on p = said_sees Known P conn sees (said_of_done Known P conn k) (NoRoom number) done on refl p
event_sees Known P conn sees k TakeAsk done on p = handing_does Known P conn k (due done) done p

-- what is done by an event, and a stop where it is the last
pub last_or_not : (P : List Deed → Type 0) (H : History) (e : Event) → ((done : List Deed) → P done → P (Halted ∷ done)) → P (deeds H) → P (does (deeds H) e) → P (deeds (e ∷ H))
last_or_not P H e stops p after =
    either_way P (is_halted (deeds H)) (deeds H) _ p
    (either_way P (ltb (length H + 1) most_events) (does (deeds H) e) (Halted ∷ does (deeds H) e) after (stops (does (deeds H) e) after))

-- a connection that an event may be said to be on
pub conn_of : Event → ℕ
conn_of (Request at frame word) = at
conn_of (Take at) = at
conn_of (Hang at) = at
conn_of e = 0

pub on_its_own : (e : Event) → event_on (conn_of e) e
unfolding conn_of
on_its_own (Request at frame word) = refl
on_its_own (Take at) = refl
on_its_own (Hang at) = refl
on_its_own Stop = tt
on_its_own (Answer call bytes) = tt
on_its_own (NoAnswer call) = tt
on_its_own (NoRoom call) = tt
on_its_own TakeAsk = tt

-- ---- every question is of a conversation that stands and waits for the server, after every history

abbrev AllAsked : List Deed → Type 0
AllAsked done = all_asked done ≡ true

abbrev asked_by : List Deed → Question → Bool
asked_by done q = stands done q.conv && asks_server done q.conv

-- where some conversations end, their questions do
pub speakers_leave : (before : List Deed) (keep : Question → Bool) → all_asked before ≡ true → list_all (λ q. keep q && asks_server before q.conv) (filter keep (questions before)) ≡ true
speakers_leave before keep h =
    all_weaker (λ q. asked_by before q && keep q) (λ q. keep q && asks_server before q.conv) (filter keep (questions before))
    (λ q e. let parts = and_parts (asked_by before q) (keep q) e in and_from (keep q) (asks_server before q.conv) parts.1 (and_parts (stands before q.conv) (asks_server before q.conv) parts.0).1)
    (all_kept (asked_by before) keep (questions before) h)

-- a call of another conversation changes nothing of this one, and one that isn't an answer nothing of one that waits for it
abbrev is_answer : calls.Call → Bool
is_answer (calls.Heard bytes) = true
is_answer calls.Unheard = true
is_answer calls.Roomless = true
is_answer call = false

call_waits : (call : calls.Call) (s : Standing) (ph : Phase) → s.phase ≡ ph → is_answer call ≡ false → is_on_server ph ≡ true → is_on_server (then_stands s ph call).phase ≡ true
call_waits call s Resting e other w = absurd cc
call_waits call s (Waiting request) e other w = absurd cc
call_waits call s Seeking e other w = absurd cc
call_waits call s (OnConfirm serial) e other w = absurd cc
call_waits call s OnNeedkey e other w = absurd cc
call_waits call s (Kept answer) e other w = absurd cc
call_waits (calls.Heard bytes) s OnServer e other w = absurd cc
call_waits calls.Unheard s OnServer e other w = absurd cc
call_waits calls.Roomless s OnServer e other w = absurd cc
call_waits (calls.Stored request) s OnServer e other w = ap is_on_server e
call_waits (calls.CarriedOut word) s OnServer e other w = ap is_on_server e
call_waits (calls.Sought found) s OnServer e other w = ap is_on_server e
call_waits (calls.Consented agrees) s OnServer e other w = ap is_on_server e
call_waits calls.KeyTold s OnServer e other w = ap is_on_server e
call_waits calls.Shut s OnServer e other w = ap is_on_server e
call_waits calls.Took s OnServer e other w = ap is_on_server e

still_asks : (done : List Deed) (conv : ℕ) (call : calls.Call) (other : ℕ) (b : Bool) → (b ≡ true → is_answer call ≡ false) → is_on_server (standing (talk done other)).phase ≡ true
    → is_on_server (standing (cond b (call ∷ talk done other) (talk done other))).phase ≡ true
still_asks done conv call other true plain h = call_waits call (standing (talk done other)) (standing (talk done other)).phase refl (plain refl) h
still_asks done conv call other false plain h = h

call_asks : (done : List Deed) (conv : ℕ) (call : calls.Call) → is_answer call ≡ false → AllAsked done → list_all (asked_by (OfTalk conv call ∷ done)) (questions done) ≡ true
call_asks done conv call plain h =
    all_weaker (asked_by done) (asked_by (OfTalk conv call ∷ done)) (questions done)
    (λ q e. let parts = and_parts (stands done q.conv) (asks_server done q.conv) e in and_from (stands done q.conv) _ parts.0 (still_asks done conv call q.conv (eqb conv q.conv) (λ _. plain) parts.1)) h

-- an answer takes the questions of its conversation away
answer_asks : (done : List Deed) (conv : ℕ) (call : calls.Call) → AllAsked done → list_all (asked_by (OfTalk conv call ∷ done)) (filter (λ q. not (eqb q.conv conv)) (questions done)) ≡ true
answer_asks done conv call h =
    all_weaker (λ q. asked_by done q && not (eqb q.conv conv)) (asked_by (OfTalk conv call ∷ done)) (filter (λ q. not (eqb q.conv conv)) (questions done))
    (λ q e.
    let parts = and_parts (asked_by done q) (not (eqb q.conv conv)) e in
    let both = and_parts (stands done q.conv) (asks_server done q.conv) parts.0 in
    let other : eqb conv q.conv ≡ false = eqb_swap conv q.conv ∙ not-true (eqb q.conv conv) parts.1 in
    and_from (stands done q.conv) _ both.0 (still_asks done conv call q.conv (eqb conv q.conv) (λ same. absurd (let no_way : true ≡ false = sym same ∙ other in cc)) both.1))
    (all_kept (asked_by done) (λ q. not (eqb q.conv conv)) (questions done) h)

pub asked_more : (conn : ℕ) → KeepsOf (is_done conn) AllAsked
asked_more c done (OfFids at deed) kind fits h = speakers_leave done (λ q. stands (OfFids at deed ∷ done) q.conv) h
asked_more c done (OfConnection at deed) kind fits h = speakers_leave done (λ q. stands (OfConnection at deed ∷ done) q.conv) h
asked_more c done (OfKeys at deed) kind fits h = h
asked_more c done (OfReplies at deed) kind fits h = h
asked_more c done (OfTalk conv (calls.Heard bytes)) kind fits h = answer_asks done conv (calls.Heard bytes) h
asked_more c done (OfTalk conv calls.Unheard) kind fits h = answer_asks done conv calls.Unheard h
asked_more c done (OfTalk conv calls.Roomless) kind fits h = answer_asks done conv calls.Roomless h
asked_more c done (OfTalk conv (calls.Stored request)) kind fits h = call_asks done conv (calls.Stored request) refl h
asked_more c done (OfTalk conv (calls.CarriedOut word)) kind fits h = call_asks done conv (calls.CarriedOut word) refl h
asked_more c done (OfTalk conv (calls.Sought found)) kind fits h = call_asks done conv (calls.Sought found) refl h
asked_more c done (OfTalk conv (calls.Consented agrees)) kind fits h = call_asks done conv (calls.Consented agrees) refl h
asked_more c done (OfTalk conv calls.KeyTold) kind fits h = call_asks done conv calls.KeyTold refl h
asked_more c done (OfTalk conv calls.Shut) kind fits h = call_asks done conv calls.Shut refl h
asked_more c done (OfTalk conv calls.Took) kind fits h = call_asks done conv calls.Took refl h
asked_more c done (Raised conv) kind fits h =
    all_append (asked_by done) (questions done) _ h (and_from (stands done conv) (asks_server done conv) (fits.speaks tt) (ap is_on_server fits.phase))
asked_more c done HandedOut kind fits h = handed_asks (λ n. stands done n && asks_server done n) (questions done) h
asked_more c done DropTaken kind fits h = h
asked_more c done (OfPrompts about doing) kind fits h = h
asked_more c done (OfLog doing) kind fits h = h
asked_more c done Swept kind fits h = h
asked_more c done Halted kind fits h = refl

-- what is known of questions is known behind every deed that fits
pub known_more : (Known : Type 0) (conn : ℕ) → KeepsIf Known (is_done conn) (λ done. Known → IsKnown done)
known_more Known conn done deed kind fits h = λ known.
    let plain = fits_of Known known done deed fits in
    record { asked = asked_more conn done deed kind plain (h known).asked; prompted = prompted_more conn done deed kind plain (h known).prompted }

-- what holds together with it
abbrev pub With : (Known : Type 0) → (List Deed → Type 0) → List Deed → Type 0
With Known P done = P done × (Known → IsKnown done)

-- the deeds of what follows on an event are deeds of one
pub handed_is_done : (conn : ℕ) (deed : Deed) → is_handed deed ≡ true → is_done conn deed ≡ true
handed_is_done conn deed is = done_by_asked conn deed (asked_by_met conn deed (met_by_handed deed is))

pub with_known : (Known : Type 0) (P : List Deed → Type 0) (conn : ℕ) (kind : Deed → Bool) → ((deed : Deed) → kind deed ≡ true → is_done conn deed ≡ true) → KeepsIf Known kind P → KeepsIf Known kind (With Known P)
with_known Known P conn kind wider k done deed is fits p = (k done deed is fits p.0, known_more Known conn done deed (wider deed is) fits p.1)

-- ---- what every deed of these kinds keeps, whatever was tested and known before

abbrev pub KeepsAny : (Deed → Bool) → (List Deed → Type 0) → Type 0
KeepsAny kind P = (done : List Deed) (deed : Deed) → kind deed ≡ true → P done → P (deed ∷ done)

pub nothing_known : (P : List Deed → Type 0) → Sees ⊥ P
nothing_known P done p known = absurd known

pub without_tests : (kind : Deed → Bool) (P : List Deed → Type 0) → KeepsAny kind P → KeepsIf ⊥ kind P
without_tests kind P k done deed is fits p = k done deed is p

pub met_any : (P : List Deed → Type 0) → KeepsAny is_met P → (conv : ℕ) (call : calls.Call) (done : List Deed) → P done → P (met conv call done)
met_any P k conv call done p = follows ⊥ P (nothing_known P) (without_tests is_met P k) conv call done (λ x. absurd x) (λ x. absurd x) (k done (OfTalk conv call) refl p)

pub delivered_any : (P : List Deed → Type 0) → KeepsAny is_handed P → (conv : ℕ) (done : List Deed) → P done → P (delivered conv done)
delivered_any P k conv done p = delivered_grows ⊥ P (without_tests is_handed P k) conv done p

pub served_any : (P : List Deed → Type 0) → KeepsAny is_handed P → (done : List Deed) → P done → P (all_served done)
served_any P k done p = all_served_grows ⊥ P (without_tests is_handed P k) done p

pub logged_any : (P : List Deed → Type 0) → KeepsAny is_handed P → (conv : ℕ) (before : Standing) (done : List Deed) → P done → P (then_logged conv before done)
logged_any P k conv before done p = then_logged_grows ⊥ P (without_tests is_handed P k) conv before done p

pub met_by : (P : List Deed → Type 0) → KeepsAny is_met P → KeepsAny is_handed P
met_by P k done deed is p = k done deed (met_by_handed deed is) p

pub resumed_any : (P : List Deed → Type 0) → KeepsAny is_met P → (o : Option ℕ) (call : calls.Call) (done : List Deed) → P done → P (resumed o call done)
resumed_any P k None call done p = p
resumed_any P k (Some conv) call done p = delivered_any P (met_by P k) conv (met conv call done) (met_any P k conv call done p)

pub carried_any : (P : List Deed → Type 0) → KeepsAny is_met P → (conv : ℕ) (word : List ℕ) (ph : Phase) (done : List Deed) → P done → P (carrying_out conv word ph done)
carried_any P k conv word (Waiting request) done p = met_any P k conv (calls.CarriedOut word) done p
carried_any P k conv word Resting done p = p
carried_any P k conv word Seeking done p = p
carried_any P k conv word (OnConfirm serial) done p = p
carried_any P k conv word OnNeedkey done p = p
carried_any P k conv word OnServer done p = p
carried_any P k conv word (Kept answer) done p = p

pub replying_any : (P : List Deed → Type 0) → KeepsAny is_met P → (kind : Option PromptKind) (reply : Option Reply) (done : List Deed) → P done → P (replying kind reply done)
replying_any P k None reply done p = p
replying_any P k (Some kind) None done p = p
replying_any P k (Some kind) (Some reply) done p = resumed_any P k (asker_of reply.tag (prompts_of done kind)) (said_by kind reply.agrees) (OfPrompts kind (side.Replied reply.tag) ∷ done) (k done (OfPrompts kind (side.Replied reply.tag)) refl p)

pub given_up_any : (P : List Deed → Type 0) → KeepsAny is_handed P → (deed : Deed) (done : List Deed) → ((d : List Deed) → P d → P (deed ∷ d)) → P done → P (given_up_by deed done)
given_up_any P k deed done more p =
    let d = all_withdrawn (ended_by deed done) done in
    let kk = without_tests is_handed P k in
    closed_grows ⊥ P (nothing_known P) kk pk.Needkey (closed pk.Confirm (deed ∷ d)) (closed_grows ⊥ P (nothing_known P) kk pk.Confirm (deed ∷ d) (more d (withdrawn_grows ⊥ P kk (ended_by deed done) done p)))

-- what holds behind the deed itself
pub given_up_after : (P : List Deed → Type 0) → KeepsAny is_handed P → (deed : Deed) (done : List Deed) → ((d : List Deed) → P (deed ∷ d)) → P (given_up_by deed done)
given_up_after P k deed done now =
    let d = all_withdrawn (ended_by deed done) done in
    let kk = without_tests is_handed P k in
    closed_grows ⊥ P (nothing_known P) kk pk.Needkey (closed pk.Confirm (deed ∷ d)) (closed_grows ⊥ P (nothing_known P) kk pk.Confirm (deed ∷ d) (now d))

-- ---- what every deed keeps of these kinds, where the questions before are known

pub frame_grows : (Known : Type 0) (P : List Deed → Type 0) (call : Call) → KeepsIf Known (is_asked call.conn) P → (done : List Deed) (frame : List ℕ) → (Known → IsKnown done) → P done → P (after_frame done call frame)
frame_grows Known P call k done frame know p =
    (frame_sees Known (With Known P) call (λ d q. q.1) (with_known Known P call.conn (is_asked call.conn) (done_by_asked call.conn) k) done frame (p, know)).0

pub answered_grows : (Known : Type 0) (P : List Deed → Type 0) (call : Call) → KeepsIf Known (is_said call.conn) P → (done : List Deed) (frame : List ℕ) → (Known → IsKnown done) → P done → P (answered done call frame)
answered_grows Known P call k done frame know p =
    (answered_sees Known (With Known P) call (λ d q. q.1) (with_known Known P call.conn (is_said call.conn) (done_by_said call.conn) k) done frame (p, know)).0

pub answer_does : (Known : Type 0) (P : List Deed → Type 0) → KeepsIf Known is_told_so P → (number : ℕ) (bytes : List ℕ) (done : List Deed) → (Known → IsKnown done) → P done → P (does done (Answer number bytes))
answer_does Known P k number bytes done know p = (answer_sees Known (With Known P) (λ d q. q.1) (with_known Known P 0 is_told_so (done_by_told 0) k) number bytes done (p, know)).0

pub no_answer_does : (Known : Type 0) (P : List Deed → Type 0) → KeepsIf Known is_told_so P → (number : ℕ) (done : List Deed) → (Known → IsKnown done) → P done → P (does done (NoAnswer number))
no_answer_does Known P k number done know p = (no_answer_sees Known (With Known P) (λ d q. q.1) (with_known Known P 0 is_told_so (done_by_told 0) k) number done (p, know)).0

pub no_room_does : (Known : Type 0) (P : List Deed → Type 0) → KeepsIf Known is_told_so P → (number : ℕ) (done : List Deed) → (Known → IsKnown done) → P done → P (does done (NoRoom number))
no_room_does Known P k number done know p = (no_room_sees Known (With Known P) (λ d q. q.1) (with_known Known P 0 is_told_so (done_by_told 0) k) number done (p, know)).0

said_does : (Known : Type 0) (P : List Deed → Type 0) (conn : ℕ) → KeepsIf Known (is_said conn) P → (e : Event) (done : List Deed) → (Known → IsKnown done) → event_on conn e → is_take e ≡ false → P done → P (does done e)
said_does Known P conn k e done know on none p = (said_sees Known (With Known P) conn (λ d q. q.1) (with_known Known P conn (is_said conn) (done_by_said conn) k) e done on none (p, know)).0

pub event_does : (Known : Type 0) (P : List Deed → Type 0) (conn : ℕ) → KeepsIf Known (is_done conn) P → (e : Event) (done : List Deed) → (Known → IsKnown done) → event_on conn e → P done → P (does done e)
event_does Known P conn k e done know on p = (event_sees Known (With Known P) conn (λ d q. q.1) (with_known Known P conn (is_done conn) (λ deed is. is) k) e done on (p, know)).0

abbrev pub AnyDeeds : List Deed → Type 0
AnyDeeds done = Unit {0}

pub all_are_known : (H : History) → IsKnown (deeds H)
all_are_known [] = record { asked = refl; prompted = λ kind. none_prompted kind }
  where
    none_prompted : (kind : PromptKind) → all_prompted [] kind ≡ true
    none_prompted pk.Confirm = refl
    none_prompted pk.Needkey = refl
all_are_known (e ∷ H) =
    let before = all_are_known H in
    let K = λ (done : List Deed). Unit {0} → IsKnown done in
    last_or_not IsKnown H e (λ done q. known_more (Unit {0}) 0 done Halted refl tt (λ _. q) tt) before
    ((event_sees (Unit {0}) (With (Unit {0}) AnyDeeds) (conn_of e) (λ d q. q.1) (with_known (Unit {0}) AnyDeeds (conn_of e) (is_done (conn_of e)) (λ deed is. is) (λ done deed is fits p. tt)) e (deeds H) (on_its_own e) (tt, λ _. before)).1 tt)

pub all_are_asked : (H : History) → all_asked (deeds H) ≡ true
all_are_asked H = (all_are_known H).asked

-- ---- histories

pub does_grows : (P : List Deed → Type 0) (conn : ℕ) → KeepsOf (is_done conn) P → (e : Event) (H : History) → event_on conn e → P (deeds H) → P (does (deeds H) e)
does_grows P conn k e H on p = event_does (Unit {0}) P conn k e (deeds H) (λ known. all_are_known H) on p

-- what the deeds of an event keep, it keeps
pub event_grows : (P : List Deed → Type 0) (conn : ℕ) → KeepsOf (is_done conn) P → (e : Event) (H : History) → event_on conn e → P (deeds H) → P (deeds (e ∷ H))
event_grows P conn k e H on p = last_or_not P H e (λ done q. k done Halted refl tt q) p (does_grows P conn k e H on p)

-- the same of an event that takes no reply
pub event_says : (P : List Deed → Type 0) (conn : ℕ) → KeepsOf (is_said conn) P → (e : Event) (H : History) → event_on conn e → is_take e ≡ false → P (deeds H) → P (deeds (e ∷ H))
event_says P conn k e H on none p = last_or_not P H e (λ done q. k done Halted refl tt q) p (said_does (Unit {0}) P conn k e (deeds H) (λ known. all_are_known H) on none p)

-- what all deeds keep holds of every history
pub history_grows : (P : List Deed → Type 0) → ((conn : ℕ) → KeepsOf (is_done conn) P) → P [] → (H : History) → P (deeds H)
history_grows P k p [] = p
history_grows P k p (e ∷ H) = event_grows P (conn_of e) (k (conn_of e)) e H (on_its_own e) (history_grows P k p H)
