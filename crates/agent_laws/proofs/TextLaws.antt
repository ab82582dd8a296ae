-- What a fid reads of ctl is a list that stood at one moment.
use Rattle.std.proofs.Common.{◌≡◌, ℕ, ◌+◌, List, [], ◌∷◌, ◌++◌, length, Bool, true, false, cond, eqb, ltb, ◌&&◌, not, Option, Some, None, refl, sym, ap, ◌∙◌, inl, inr, append-nil, subst}
use Rattle.std.specs.Prelude.{Result, Ok, Err, ◌⊎◌, is_some}
use Rattle.std.specs.List.{list_all}
use Rattle.std.proofs.lemmas.Bool.{and_parts, not-true, eq-eqb}
use Rattle.nine.specs.declared.message.TBody.{TBody}
use Rattle.nine.specs.declared.message.TBody.TheVariants as t
use Rattle.nine.specs.declared.message.RBody.{RBody}
use Rattle.nine.specs.declared.message.RBody.TheVariants as r
use Rattle.file_tree.specs.declared.tree.Node.{Node}
use Rattle.file_tree.specs.declared.tree.Node.TheVariants.{Root, Factotum, Rpc, Ctl, Confirm, Needkey, Proto, Log}
use Rattle.file_tree.specs.Tree.{lead_to}
use Rattle.file_tree.specs.Calls.{node_of}
use Rattle.key_lists.specs.Listing.{list_text}
use Rattle.talks.specs.Requests.{RpcRequest, request_of}
use Rattle.talks.specs.declared.answer.RpcAnswer.{RpcAnswer}
use Rattle.talks.specs.declared.request.RpcFault.{RpcFault}
use Rattle.talks.specs.Calls as calls
use Rattle.talks.specs.Standings.{Phase, Resting, Waiting, Seeking, OnConfirm, OnNeedkey, OnServer, Kept}
use Rattle.agent_history.specs.declared.event.Event.{Event}
use Rattle.agent_history.specs.declared.event.Event.TheVariants.{Request, Hang, Answer, NoAnswer, NoRoom, Take, TakeAsk, Stop}
use Rattle.agent_history.specs.Deeds.{Deed, FidDeed, OfFids, OfKeys, OfReplies, OfConnection, OfTalk, Raised, HandedOut, OfPrompts, OfLog, DropTaken, Swept, Halted, Versioned, Attached, Walked, Opened, Listed, Browsed, Clunked, Edited, Switched, Entered, Hung, fid_of, is_halted, keys_of, msize_of, text_of, was_hung, was_opened, Answered, Awaited, Settled, Flushed, Taken}
use Rattle.nine.specs.declared.message.RMsg.{RMsg}
use Rattle.key_lists.specs.CtlLines.{carried_out, lines_of}
use Rattle.agent_history.specs.Replies.{has_settled, swept, untaken}
use Rattle.agent_history.specs.Conversations.{asker, conv_of, fits, resumed, standing_of, then_took, Due, NoneDue, DropDue, QuestionDue, due, given_up_by}
use Rattle.agent_history.specs.Requests.{Call, after, after_frame, after_granted, answered, body_to, call_of, carried, ctl_text, effective, granted, is_rpc, lines_done, piece, read_reply, reading, reading_answer, reading_talk, replied, reply_of, stored, walking, agreed, reading_line, replying}
use Rattle.agent_history.specs.Histories.{History, deeds, does, entered, handing, most_events, taking}
use Rattle.agent_laws.specs.Laws.{StoodOnce, sets_text}
use Rattle.agent_laws.proofs.KindLaws.{KeepsOf, is_handed, is_line, is_met}
use Rattle.agent_laws.proofs.MetLaws.{lines_grow}
use Rattle.agent_laws.proofs.GrowLaws.{KeepsAny, carried_any, given_up_any, met_by, replying_any, resumed_any}
use Rattle.agent_history.specs.SideFiles.{is_line_file, kind_at, lines_in}
use Rattle.side_files.specs.Lines.{Found, Nothing, TooLong, First, found}
use Rattle.side_files.specs.declared.line.PromptKind.{PromptKind}
use Rattle.side_files.specs.declared.reply.Reply.{Reply}
use Rattle.side_files.specs.Replies as prompt

-- ---- what a request makes of a fid's text: it stays, or there is none, or it is the list of this moment

abbrev pub Finds : List Deed → ℕ → ℕ → List ℕ → Type 0
Finds done conn fid text = (text ≡ text_of done conn fid) ⊎ ((text ≡ []) ⊎ (text ≡ list_text (keys_of done)))

stays : (done : List Deed) (conn fid : ℕ) → Finds done conn fid (text_of done conn fid)
stays done conn fid = inl refl

-- the fid came to a file
anew : (b : Bool) (done : List Deed) (conn fid : ℕ) → Finds done conn fid (cond b [] (text_of done conn fid))
anew true done conn fid = inr (inl refl)
anew false done conn fid = inl refl

-- a read from 0
listed : (b : Bool) (done : List Deed) (conn fid : ℕ) → Finds done conn fid (cond b (list_text (keys_of done)) (text_of done conn fid))
listed true done conn fid = inr (inr refl)
listed false done conn fid = inl refl

walking_finds : (at f : ℕ) (found : Option Node) (done : List Deed) (conn fid : ℕ) → Finds done conn fid (text_of (walking at f found done) conn fid)
walking_finds at f None done conn fid = stays done conn fid
walking_finds at f (Some node) done conn fid = anew _ done conn fid

listing_finds : (b : Bool) (at f : ℕ) (done : List Deed) (conn fid : ℕ) → Finds done conn fid (text_of (cond b (OfFids at (Listed f) ∷ done) done) conn fid)
listing_finds true at f done conn fid = listed _ done conn fid
listing_finds false at f done conn fid = stays done conn fid

reading_finds : (at f offset count : ℕ) (node : Node) (done : List Deed) (conn fid : ℕ) → Finds done conn fid (text_of (reading done at f offset count node) conn fid)
reading_finds at f offset count Root done conn fid = stays done conn fid
reading_finds at f offset count Factotum done conn fid = stays done conn fid
reading_finds at f offset count Ctl done conn fid = listing_finds (eqb offset 0) at f done conn fid
reading_finds at f offset count Rpc done conn fid = stays done conn fid
reading_finds at f offset count Confirm done conn fid = stays done conn fid
reading_finds at f offset count Needkey done conn fid = stays done conn fid
reading_finds at f offset count Proto done conn fid = stays done conn fid
reading_finds at f offset count Log done conn fid = stays done conn fid

-- the lines of a write set no text
line_sets_none : (before : List Deed) (at conn fid : ℕ) → KeepsOf (is_line at) (λ done. text_of done conn fid ≡ text_of before conn fid)
line_sets_none before at conn fid done (OfKeys c (Edited edit)) line fits e = e
line_sets_none before at conn fid done (OfKeys c Switched) line fits e = e
line_sets_none before at conn fid done (OfFids c deed) line fits e = absurd cc
line_sets_none before at conn fid done (OfReplies c deed) line fits e = absurd cc
line_sets_none before at conn fid done (OfConnection c deed) line fits e = absurd cc
line_sets_none before at conn fid done (OfTalk conv call) line fits e = absurd cc
line_sets_none before at conn fid done (Raised conv) line fits e = absurd cc
line_sets_none before at conn fid done HandedOut line fits e = absurd cc
line_sets_none before at conn fid done DropTaken line fits e = absurd cc
line_sets_none before at conn fid done (OfPrompts about doing) line fits e = absurd cc
line_sets_none before at conn fid done (OfLog doing) line fits e = absurd cc
line_sets_none before at conn fid done Swept line fits e = absurd cc
line_sets_none before at conn fid done Halted line fits e = absurd cc

writing_finds : (at : ℕ) (lines : List (List ℕ)) (done : List Deed) (conn fid : ℕ) → Finds done conn fid (text_of (lines_done at (carried_out (keys_of done) lines) done) conn fid)
writing_finds at lines done conn fid = inl (lines_grow (λ now. text_of now conn fid ≡ text_of done conn fid) at (line_sets_none done at conn fid) lines done refl)

either_finds : (b : Bool) (before one other : List Deed) (conn fid : ℕ) → Finds before conn fid (text_of one conn fid) → Finds before conn fid (text_of other conn fid) → Finds before conn fid (text_of (cond b one other) conn fid)
either_finds true before one other conn fid f g = f
either_finds false before one other conn fid f g = g

-- what conversations meet sets no text
met_text : (before : List Deed) (conn fid : ℕ) → KeepsAny is_met (λ done. Finds before conn fid (text_of done conn fid))
met_text before conn fid done (OfTalk conv call) is p = p
met_text before conn fid done (OfPrompts about doing) is p = p
met_text before conn fid done (OfLog doing) is p = p
met_text before conn fid done (Raised conv) is p = p
met_text before conn fid done (OfReplies at (Settled tag body)) is p = p
met_text before conn fid done (OfFids at deed) is p = absurd cc
met_text before conn fid done (OfKeys at deed) is p = absurd cc
met_text before conn fid done (OfConnection at deed) is p = absurd cc
met_text before conn fid done (OfReplies at (Answered tag body)) is p = absurd cc
met_text before conn fid done (OfReplies at (Awaited tag f count)) is p = absurd cc
met_text before conn fid done (OfReplies at (Flushed tag)) is p = absurd cc
met_text before conn fid done (OfReplies at Taken) is p = absurd cc
met_text before conn fid done HandedOut is p = absurd cc
met_text before conn fid done DropTaken is p = absurd cc
met_text before conn fid done Swept is p = absurd cc
met_text before conn fid done Halted is p = absurd cc

handed_text : (before : List Deed) (conn fid : ℕ) → KeepsAny is_handed (λ done. Finds before conn fid (text_of done conn fid))
handed_text before conn fid = met_by (λ done. Finds before conn fid (text_of done conn fid)) (met_text before conn fid)

took_finds : (conv count : ℕ) (answer : RpcAnswer) (done : List Deed) (conn fid : ℕ) → text_of (then_took conv count answer done) conn fid ≡ text_of done conn fid
took_finds conv count answer done conn fid = by_cases (fits count answer)
  where
    by_cases : (b : Bool) → text_of (cond b (OfTalk conv calls.Took ∷ done) done) conn fid ≡ text_of done conn fid
    by_cases true = refl
    by_cases false = refl

answer_finds : (call : Call) (conv f count : ℕ) (ph : Phase) (done : List Deed) (conn fid : ℕ) → text_of (reading_answer call conv f count ph done) conn fid ≡ text_of done conn fid
answer_finds call conv f count (Kept answer) done conn fid = took_finds conv count answer done conn fid
answer_finds call conv f count Resting done conn fid = refl
answer_finds call conv f count (Waiting request) done conn fid = refl
answer_finds call conv f count Seeking done conn fid = refl
answer_finds call conv f count (OnConfirm serial) done conn fid = refl
answer_finds call conv f count OnNeedkey done conn fid = refl
answer_finds call conv f count OnServer done conn fid = refl

talk_finds : (call : Call) (f count : ℕ) (o : Option ℕ) (done : List Deed) (conn fid : ℕ) → Finds done conn fid (text_of (reading_talk call f count o done) conn fid)
talk_finds call f count None done conn fid = stays done conn fid
talk_finds call f count (Some conv) done conn fid =
    let after = carried conv call.word done in
    subst (Finds done conn fid) (sym (answer_finds call conv f count (standing_of after conv).phase after conn fid))
    (carried_any (λ now. Finds done conn fid (text_of now conn fid)) (met_text done conn fid) conv call.word (standing_of done conv).phase done (stays done conn fid))

line_finds : (call : Call) (f count : ℕ) (node : Node) (what : Found) (done : List Deed) (conn fid : ℕ) → Finds done conn fid (text_of (reading_line call f count node what done) conn fid)
line_finds call f count node Nothing done conn fid = stays done conn fid
line_finds call f count node TooLong done conn fid = stays done conn fid
line_finds call f count Confirm (First line) done conn fid = stays done conn fid
line_finds call f count Needkey (First line) done conn fid = stays done conn fid
line_finds call f count Log (First line) done conn fid = stays done conn fid
line_finds call f count Root (First line) done conn fid = stays done conn fid
line_finds call f count Factotum (First line) done conn fid = stays done conn fid
line_finds call f count Rpc (First line) done conn fid = stays done conn fid
line_finds call f count Ctl (First line) done conn fid = stays done conn fid
line_finds call f count Proto (First line) done conn fid = stays done conn fid

-- fids are given up
none_or : (b : Bool) (before : List Deed) (conn fid : ℕ) (text : List ℕ) → Finds before conn fid text → Finds before conn fid (cond b [] text)
none_or true before conn fid text f = inr (inl refl)
none_or false before conn fid text f = f

clunked_finds : (done : List Deed) (at f conn fid : ℕ) → Finds done conn fid (text_of (given_up_by (OfFids at (Clunked f)) done) conn fid)
clunked_finds done at f conn fid = given_up_any (λ now. Finds done conn fid (text_of now conn fid)) (handed_text done conn fid) (OfFids at (Clunked f)) done (λ d g. none_or _ done conn fid (text_of d conn fid) g) (stays done conn fid)

versioned_finds : (done : List Deed) (at : ℕ) (msize : Option ℕ) (conn fid : ℕ) → Finds done conn fid (text_of (given_up_by (OfFids at (Versioned msize)) done) conn fid)
versioned_finds done at msize conn fid = given_up_any (λ now. Finds done conn fid (text_of now conn fid)) (handed_text done conn fid) (OfFids at (Versioned msize)) done (λ d g. none_or _ done conn fid (text_of d conn fid) g) (stays done conn fid)

hung_finds : (done : List Deed) (at conn fid : ℕ) → Finds done conn fid (text_of (given_up_by (OfConnection at Hung) done) conn fid)
hung_finds done at conn fid = given_up_any (λ now. Finds done conn fid (text_of now conn fid)) (handed_text done conn fid) (OfConnection at Hung) done (λ d g. none_or _ done conn fid (text_of d conn fid) g) (stays done conn fid)

replying_finds : (kind : Option PromptKind) (reply : Option Reply) (done : List Deed) (conn fid : ℕ) → Finds done conn fid (text_of (replying kind reply done) conn fid)
replying_finds kind reply done conn fid = replying_any (λ now. Finds done conn fid (text_of now conn fid)) (met_text done conn fid) kind reply done (stays done conn fid)

storing_finds : (o : Option ℕ) (came : Result RpcRequest RpcFault) (done : List Deed) (conn fid : ℕ) → Finds done conn fid (text_of (stored o came done) conn fid)
storing_finds None came done conn fid = stays done conn fid
storing_finds (Some conv) (Ok request) done conn fid = stays done conn fid
storing_finds (Some conv) (Err fault) done conn fid = stays done conn fid

body_finds : (done : List Deed) (call : Call) (body : TBody) (conn fid : ℕ) → Finds done conn fid (text_of (after done call body) conn fid)
unfolding after
body_finds done call (t.Version msize version) conn fid = versioned_finds done call.conn (agreed msize version) conn fid
body_finds done call (t.Auth afid uname aname) conn fid = stays done conn fid
body_finds done call (t.Attach f afid uname aname) conn fid = anew _ done conn fid
body_finds done call (t.Flush oldtag) conn fid = stays done conn fid
body_finds done call (t.Walk f newfid wname) conn fid = walking_finds call.conn newfid (lead_to (node_of (fid_of done call.conn f)) wname) done conn fid
body_finds done call (t.Open f mode) conn fid = stays done conn fid
body_finds done call (t.Create f name perm mode) conn fid = stays done conn fid
body_finds done call (t.Read f offset count) conn fid =
    let node = node_of (fid_of done call.conn f) in
    let most = effective count (msize_of done call.conn) in
    either_finds (is_rpc node) done _ _ conn fid (talk_finds call f most (conv_of done call.conn f) done conn fid)
    (either_finds (is_line_file node) done _ _ conn fid (line_finds call f most node (found most (lines_in done node)) done conn fid) (reading_finds call.conn f offset most node done conn fid))
body_finds done call (t.Write f offset content) conn fid =
    either_finds (is_rpc (node_of (fid_of done call.conn f))) done _ _ conn fid (storing_finds (conv_of done call.conn f) (request_of content) done conn fid)
    (either_finds (is_some (kind_at (node_of (fid_of done call.conn f)))) done _ _ conn fid (replying_finds (kind_at (node_of (fid_of done call.conn f))) (prompt.reply_of content) done conn fid) (writing_finds call.conn (lines_of content) done conn fid))
body_finds done call (t.Clunk f) conn fid = clunked_finds done call.conn f conn fid
body_finds done call (t.Remove f) conn fid = clunked_finds done call.conn f conn fid
body_finds done call (t.Stat f) conn fid = stays done conn fid
body_finds done call (t.Wstat f stat) conn fid = stays done conn fid

granted_finds : (done : List Deed) (call : Call) (g : Result TBody (List ℕ)) (conn fid : ℕ) → Finds done conn fid (text_of (after_granted done call g) conn fid)
granted_finds done call (Err text) conn fid = stays done conn fid
granted_finds done call (Ok body) conn fid = body_finds done call body conn fid

frame_finds : (done : List Deed) (call : Call) (frame : List ℕ) (conn fid : ℕ) → Finds done conn fid (text_of (answered done call frame) conn fid)
unfolding after_frame
frame_finds done call frame conn fid = replied_finds (body_to done call frame)
  where
    replied_finds : (o : Option RBody) → Finds done conn fid (text_of (replied call o (after_frame done call frame)) conn fid)
    replied_finds None = granted_finds done call (granted done call frame) conn fid
    replied_finds (Some body) = granted_finds done call (granted done call frame) conn fid

-- what an event does beside
swept_finds : (b : Bool) (before done : List Deed) (conn fid : ℕ) → Finds before conn fid (text_of done conn fid) → Finds before conn fid (text_of (cond b (Swept ∷ done) done) conn fid)
swept_finds true before done conn fid f = f
swept_finds false before done conn fid f = f

entered_finds : (b : Bool) (at : ℕ) (done : List Deed) (conn fid : ℕ) (text : List ℕ) → Finds (cond b done (OfConnection at Entered ∷ done)) conn fid text → Finds done conn fid text
entered_finds true at done conn fid text f = f
entered_finds false at done conn fid text f = f

taking_finds : (at : ℕ) (left : List RMsg) (done : List Deed) (conn fid : ℕ) → Finds done conn fid (text_of (taking at left done) conn fid)
taking_finds at [] done conn fid = stays done conn fid
taking_finds at (reply ∷ rest) done conn fid = stays done conn fid

resumed_finds : (before : List Deed) (o : Option ℕ) (call : calls.Call) (conn fid : ℕ) → Finds before conn fid (text_of (swept (resumed o call before)) conn fid)
resumed_finds before o call conn fid =
    swept_finds (has_settled (resumed o call before)) before (resumed o call before) conn fid (resumed_any (λ now. Finds before conn fid (text_of now conn fid)) (met_text before conn fid) o call before (stays before conn fid))

handing_finds : (o : Due) (done : List Deed) (conn fid : ℕ) → Finds done conn fid (text_of (handing o done) conn fid)
handing_finds NoneDue done conn fid = stays done conn fid
handing_finds (DropDue drop) done conn fid = stays done conn fid
handing_finds (QuestionDue question) done conn fid = stays done conn fid

does_finds : (done : List Deed) (e : Event) (conn fid : ℕ) → Finds done conn fid (text_of (does done e) conn fid)
does_finds done (Request at frame word) conn fid =
    let opened = entered at done in
    let call = call_of at frame word in
    either_finds (was_hung done at) done done _ conn fid (stays done conn fid)
    (swept_finds (has_settled (answered opened call frame)) done (answered opened call frame) conn fid
    (entered_finds (was_opened done at) at done conn fid _ (frame_finds opened call frame conn fid)))
does_finds done (Take at) conn fid =
    either_finds (was_hung done at) done done _ conn fid (stays done conn fid)
    (entered_finds (was_opened done at) at done conn fid _ (taking_finds at (untaken done at) (entered at done) conn fid))
does_finds done (Hang at) conn fid = either_finds (was_opened done at && not (was_hung done at)) done _ done conn fid (swept_finds (has_settled (given_up_by (OfConnection at Hung) done)) done (given_up_by (OfConnection at Hung) done) conn fid (hung_finds done at conn fid)) (stays done conn fid)
does_finds done Stop conn fid = inr (inl refl)
does_finds done (Answer call bytes) conn fid = resumed_finds done (asker done call) (calls.Heard bytes) conn fid
does_finds done (NoAnswer call) conn fid = resumed_finds done (asker done call) calls.Unheard conn fid
does_finds done (NoRoom call) conn fid = resumed_finds done (asker done call) calls.Roomless conn fid
does_finds done TakeAsk conn fid = handing_finds (due done) done conn fid

-- ---- histories

stood_before : (e : Event) (H : History) (text : List ℕ) → StoodOnce H text → StoodOnce (e ∷ H) text
stood_before e H text s = (e ∷ s.0, s.1, ap (λ (events : History). e ∷ events) s.2, s.3)

stood_never : (H : History) → StoodOnce H []
unfolding list_text
stood_never H = (H, [], sym (append-nil H), refl)

stands_now : (H : History) → StoodOnce H (list_text (keys_of (deeds H)))
stands_now H = ([], H, refl, refl)

stood_then : (e : Event) (H : History) (conn fid : ℕ) (text : List ℕ) → StoodOnce H (text_of (deeds H) conn fid) → Finds (deeds H) conn fid text → StoodOnce (e ∷ H) text
stood_then e H conn fid text s (inl same) = rw same (stood_before e H (text_of (deeds H) conn fid) s)
stood_then e H conn fid text s (inr (inl none)) = rw none (stood_never (e ∷ H))
stood_then e H conn fid text s (inr (inr now)) = rw now (stood_before e H (list_text (keys_of (deeds H))) (stands_now H))

event_finds : (e : Event) (H : History) (conn fid : ℕ) → Finds (deeds H) conn fid (text_of (deeds (e ∷ H)) conn fid)
event_finds e H conn fid =
    let after = does (deeds H) e in
    let found = does_finds (deeds H) e conn fid in
    either_finds (is_halted (deeds H)) (deeds H) (deeds H) _ conn fid (stays (deeds H) conn fid)
    (either_finds (ltb (length H + 1) most_events) (deeds H) after (Halted ∷ after) conn fid found (inr (inl refl)))

pub text_stood : (H : History) (conn fid : ℕ) → StoodOnce H (text_of (deeds H) conn fid)
text_stood [] conn fid = stood_never []
text_stood (e ∷ H) conn fid = stood_then e H conn fid (text_of (deeds (e ∷ H)) conn fid) (text_stood H conn fid) (event_finds e H conn fid)

-- ---- what a read replies

found_stood : (b : Bool) (H : History) (conn fid : ℕ) → StoodOnce H (cond b (list_text (keys_of (deeds H))) (text_of (deeds H) conn fid))
found_stood true H conn fid = stands_now H
found_stood false H conn fid = text_stood H conn fid

pub read_is_piece : (H : History) (call : Call) (fid offset count : ℕ) → node_of (fid_of (deeds H) call.conn fid) ≡ Ctl
    → (text : List ℕ) × StoodOnce H text × (reply_of (deeds H) call (t.Read fid offset count) ≡ Some (r.Read (piece offset (effective count (msize_of (deeds H) call.conn)) text)))
unfolding reply_of
read_is_piece H call fid offset count is = (
  ctl_text (deeds H) call.conn fid offset,
  found_stood (eqb offset 0) H call.conn fid,
  ap (λ (node : Node). read_reply (deeds H) call fid offset (effective count (msize_of (deeds H) call.conn)) node) is,
)

-- ---- the text stays until it is set anew

fids_text_same : (at : ℕ) (deed : FidDeed) (done : List Deed) (conn fid : ℕ) → sets_text (OfFids at deed) conn fid ≡ false → text_of (OfFids at deed ∷ done) conn fid ≡ text_of done conn fid
fids_text_same at (Versioned msize) done conn fid e = rw e refl
fids_text_same at (Attached f) done conn fid e = rw e refl
fids_text_same at (Walked f node) done conn fid e = rw e refl
fids_text_same at (Opened f mode) done conn fid e = refl
fids_text_same at (Listed f) done conn fid e = rw e refl
fids_text_same at (Browsed f next) done conn fid e = refl
fids_text_same at (Clunked f) done conn fid e = rw e refl

text_same : (deed : Deed) (done : List Deed) (conn fid : ℕ) → sets_text deed conn fid ≡ false → text_of (deed ∷ done) conn fid ≡ text_of done conn fid
text_same (OfFids at deed) done conn fid e = fids_text_same at deed done conn fid e
text_same (OfKeys at deed) done conn fid e = refl
text_same (OfReplies at deed) done conn fid e = refl
text_same (OfConnection at Entered) done conn fid e = refl
text_same (OfConnection at Hung) done conn fid e = rw e refl
text_same (OfTalk conv call) done conn fid e = refl
text_same (Raised conv) done conn fid e = refl
text_same HandedOut done conn fid e = refl
text_same DropTaken done conn fid e = refl
text_same (OfPrompts about doing) done conn fid e = refl
text_same (OfLog doing) done conn fid e = refl
text_same Swept done conn fid e = refl
text_same Halted done conn fid e = absurd cc

pub text_stays : (more done : List Deed) (conn fid : ℕ) → list_all (λ deed. not (sets_text deed conn fid)) more ≡ true → text_of (more ++ done) conn fid ≡ text_of done conn fid
text_stays [] done conn fid e = refl
text_stays (deed ∷ more) done conn fid e =
    let parts = and_parts (not (sets_text deed conn fid)) (list_all (λ d. not (sets_text d conn fid)) more) e in
    text_same deed (more ++ done) conn fid (not-true (sets_text deed conn fid) parts.0) ∙ text_stays more done conn fid parts.1

pub listed_stays : (more done : List Deed) (conn fid : ℕ) → list_all (λ deed. not (sets_text deed conn fid)) more ≡ true → text_of (more ++ OfFids conn (Listed fid) ∷ done) conn fid ≡ list_text (keys_of done)
listed_stays more done conn fid e = text_stays more (OfFids conn (Listed fid) ∷ done) conn fid e ∙ rw (eq-eqb conn conn refl, eq-eqb fid fid refl) refl
