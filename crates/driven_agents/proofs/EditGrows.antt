-- What every deed keeps that is no line of ctl and no walk, and the lines of a write and the walks keep, holds of every history.
use Rattle.std.proofs.Common.{codes, ◌≡◌, ℕ, List, [], ◌∷◌, Bool, true, false, cond, eqb, ◌&&◌, not, Option, Some, None, refl}
use Rattle.std.specs.Prelude.{◌⊎◌, Result, Ok, Err, is_some}
use Rattle.nine.specs.declared.message.TMsg.{TMsg}
use Rattle.nine.specs.Decoding.{request_of}
use Rattle.nine.specs.declared.message.RMsg.{RMsg}
use Rattle.nine.specs.declared.message.RBody.{RBody}
use Rattle.nine.specs.declared.message.TBody.{TBody}
use Rattle.nine.specs.declared.message.TBody.TheVariants as t
use Rattle.file_tree.specs.declared.tree.Node.{Node}
use Rattle.file_tree.specs.declared.tree.Node.TheVariants.{Root, Factotum, Rpc, Ctl, Confirm, Needkey, Proto, Log}
use Rattle.file_tree.specs.Tree.{lead_to}
use Rattle.file_tree.specs.Directories.{dir_end}
use Rattle.file_tree.specs.Calls.{node_of}
use Rattle.key_lists.specs.CtlLines.{carried_out, lines_of}
use Rattle.talks.specs.Requests as rpc
use Rattle.side_files.specs.Lines.{found}
use Rattle.side_files.specs.Replies as prompt
use Rattle.agent_history.specs.declared.event.Event.{Event}
use Rattle.agent_history.specs.declared.event.Event.TheVariants.{Request, Hang, Answer, NoAnswer, NoRoom, Take, TakeAsk, Stop}
use Rattle.agent_history.specs.Deeds.{Deed, OfFids, OfKeys, OfReplies, OfConnection, OfTalk, Raised, HandedOut, OfPrompts, OfLog, DropTaken, Swept, Halted, Versioned, Attached, Walked, Opened, Listed, Browsed, Clunked, Answered, Flushed, Taken, Entered, Hung, fid_of, keys_of, msize_of, was_hung, was_opened}
use Rattle.agent_history.specs.Replies.{has_settled, swept, untaken, waits_under}
use Rattle.agent_history.specs.SideFiles.{is_line_file, kind_at, lines_in}
use Rattle.agent_history.specs.Conversations.{Due, NoneDue, DropDue, QuestionDue, conv_of, due, given_up_by}
use Rattle.agent_history.specs.Requests.{Call, after, after_frame, after_granted, agreed, answered, body_to, call_of, comes_first, granted, is_over, is_rpc, lacks_version, lines_done, reading, refusal, repeats_tag, replied, walking}
use Rattle.agent_history.specs.Histories.{History, deeds, does, entered, handing, taking}
use Rattle.agent_laws.proofs.KindLaws.{KeepsIf, is_met, is_spoken, is_told_so}
use Rattle.agent_laws.proofs.MetLaws.{line_file_grows, stored_grows, talk_grows}
use Rattle.agent_laws.proofs.GrowLaws.{KeepsAny, Passed, of_message, unless_refused, answer_does, given_up_any, last_or_not, line_read_waits, met_by, no_answer_does, no_room_does, none_refuses, not_first, read_count, read_waits, replying_any}

-- a line of ctl, or a walk
abbrev pub is_special : Deed → Bool
is_special (OfKeys at deed) = true
is_special (OfFids at (Walked fid node)) = true
is_special deed = false

abbrev pub KeepsPlain : (List Deed → Type 0) → Type 0
KeepsPlain P = (done : List Deed) (deed : Deed) → is_special deed ≡ false → P done → P (deed ∷ done)

abbrev pub KeepsLines : (List Deed → Type 0) → Type 0
KeepsLines P = (conn : ℕ) (lines : List (List ℕ)) (done : List Deed) → P done → P (lines_done conn (carried_out (keys_of done) lines) done)

-- a request keeps it where its walk does
abbrev pub KeepsWalk : (List Deed → Type 0) → TBody → Type 0
KeepsWalk P (t.Walk fid newfid names) = (done : List Deed) (call : Call) → P done → P (walking call.conn newfid (lead_to (node_of (fid_of done call.conn fid)) names) done)
KeepsWalk P body = Unit {0}

pub where_so : (P : List Deed → Type 0) (b : Bool) (one other : List Deed) → (b ≡ true → P one) → P other → P (cond b one other)
where_so P true one other p q = p refl
where_so P false one other p q = q

-- ---- what conversations meet is no line

spoken_plain : (conn : ℕ) (deed : Deed) → is_spoken conn deed ≡ true → is_special deed ≡ false
spoken_plain conn (OfKeys at deed) e = absurd cc
spoken_plain conn (OfFids at deed) e = absurd cc
spoken_plain conn (OfReplies at deed) e = refl
spoken_plain conn (OfConnection at deed) e = refl
spoken_plain conn (OfTalk conv call) e = refl
spoken_plain conn (Raised conv) e = refl
spoken_plain conn HandedOut e = refl
spoken_plain conn DropTaken e = refl
spoken_plain conn (OfPrompts about doing) e = refl
spoken_plain conn (OfLog doing) e = refl
spoken_plain conn Swept e = refl
spoken_plain conn Halted e = refl

told_plain : (deed : Deed) → is_told_so deed ≡ true → is_special deed ≡ false
told_plain (OfKeys at deed) e = absurd cc
told_plain (OfFids at deed) e = absurd cc
told_plain (OfReplies at deed) e = refl
told_plain (OfConnection at deed) e = refl
told_plain (OfTalk conv call) e = refl
told_plain (Raised conv) e = refl
told_plain HandedOut e = refl
told_plain DropTaken e = refl
told_plain (OfPrompts about doing) e = refl
told_plain (OfLog doing) e = refl
told_plain Swept e = refl
told_plain Halted e = refl

met_plain : (deed : Deed) → is_met deed ≡ true → is_special deed ≡ false
met_plain (OfKeys at deed) e = absurd cc
met_plain (OfFids at deed) e = absurd cc
met_plain (OfReplies at deed) e = refl
met_plain (OfConnection at deed) e = refl
met_plain (OfTalk conv call) e = refl
met_plain (Raised conv) e = refl
met_plain HandedOut e = refl
met_plain DropTaken e = refl
met_plain (OfPrompts about doing) e = refl
met_plain (OfLog doing) e = refl
met_plain Swept e = refl
met_plain Halted e = refl

spoken_keeps : (P : List Deed → Type 0) → KeepsPlain P → (conn : ℕ) → KeepsIf ⊥ (is_spoken conn) P
spoken_keeps P k conn done deed kind fits p = k done deed (spoken_plain conn deed kind) p

told_keeps : (P : List Deed → Type 0) → KeepsPlain P → KeepsIf ⊥ is_told_so P
told_keeps P k done deed kind fits p = k done deed (told_plain deed kind) p

met_keeps : (P : List Deed → Type 0) → KeepsPlain P → KeepsAny is_met P
met_keeps P k done deed is p = k done deed (met_plain deed is) p

ends_keep : (P : List Deed → Type 0) → KeepsPlain P → (deed : Deed) → is_special deed ≡ false → (done : List Deed) → P done → P (given_up_by deed done)
ends_keep P k deed plain done p = given_up_any P (met_by P (met_keeps P k)) deed done (λ d h. k d deed plain h) p

-- ---- what is granted

-- what is so of a request that is granted
abbrev pub OkIs : (TBody → Type 0) → Result TBody (List ℕ) → Type 0
OkIs P (Err text) = Unit {0}
OkIs P (Ok body) = P body

ok_if : (P : TBody → Type 0) (b : Bool) (text : List ℕ) (r : Result TBody (List ℕ)) → OkIs P r → OkIs P (cond b (Err text) r)
ok_if P true text r is = tt
ok_if P false text r is = is

ok_unless : (P : TBody → Type 0) (body : TBody) (o : Option (List ℕ)) → P body → OkIs P (unless_refused body o)
ok_unless P body None is = is
ok_unless P body (Some text) is = tt

ok_message : (P : TBody → Type 0) (done : List Deed) (call : Call) (text : List ℕ) (o : Option TMsg) → ((m : TMsg) → o ≡ Some m → P m.body) → OkIs P (of_message done call text o)
ok_message P done call text None is = tt
ok_message P done call text (Some m) is =
    ok_if P (lacks_version done call m.body) (codes "no version") _
    (ok_if P (repeats_tag done call m.body) (codes "duplicate tag") (unless_refused m.body (refusal done call m.body))
    (ok_unless P m.body (refusal done call m.body) (is m refl)))

pub granted_so : (P : TBody → Type 0) (done : List Deed) (call : Call) (frame : List ℕ) → ((m : TMsg) → request_of frame ≡ Some m → P m.body) → OkIs P (granted done call frame)
unfolding granted
granted_so P done call frame is = ok_if P (is_over (msize_of done call.conn) frame) (codes "message over msize") (of_message done call (codes "bad message") (request_of frame)) (ok_message P done call (codes "bad message") (request_of frame) is)

-- ---- requests

listing_keeps : (P : List Deed → Type 0) → KeepsPlain P → (b : Bool) (conn fid : ℕ) (done : List Deed) → P done → P (cond b (OfFids conn (Listed fid) ∷ done) done)
listing_keeps P k true conn fid done p = k done (OfFids conn (Listed fid)) refl p
listing_keeps P k false conn fid done p = p

reading_keeps : (P : List Deed → Type 0) → KeepsPlain P → (conn fid offset count : ℕ) (node : Node) (done : List Deed) → P done → P (reading done conn fid offset count node)
reading_keeps P k conn fid offset count Root done p = k done (OfFids conn (Browsed fid (dir_end Root offset count))) refl p
reading_keeps P k conn fid offset count Factotum done p = k done (OfFids conn (Browsed fid (dir_end Factotum offset count))) refl p
reading_keeps P k conn fid offset count Ctl done p = listing_keeps P k (eqb offset 0) conn fid done p
reading_keeps P k conn fid offset count Rpc done p = p
reading_keeps P k conn fid offset count Confirm done p = p
reading_keeps P k conn fid offset count Needkey done p = p
reading_keeps P k conn fid offset count Proto done p = p
reading_keeps P k conn fid offset count Log done p = p

body_keeps : (P : List Deed → Type 0) → KeepsPlain P → KeepsLines P → (done : List Deed) (call : Call) (body : TBody) → refusal done call body ≡ None → waits_under done call.conn call.tag ≡ false ⊎ (comes_first body ≡ true) → KeepsWalk P body → P done → P (after done call body)
unfolding after
body_keeps P k lines done call (t.Version msize version) e unused w p = ends_keep P k (OfFids call.conn (Versioned (agreed msize version))) refl done p
body_keeps P k lines done call (t.Auth afid uname aname) e unused w p = p
body_keeps P k lines done call (t.Attach fid afid uname aname) e unused w p = k done (OfFids call.conn (Attached fid)) refl p
body_keeps P k lines done call (t.Flush oldtag) e unused w p = k done (OfReplies call.conn (Flushed oldtag)) refl p
body_keeps P k lines done call (t.Walk fid newfid wname) e unused w p = w done call p
body_keeps P k lines done call (t.Open fid mode) e unused w p = k done (OfFids call.conn (Opened fid mode)) refl p
body_keeps P k lines done call (t.Create fid name perm mode) e unused w p = p
body_keeps P k lines done call (t.Read fid offset count) e unused w p =
    let node = node_of (fid_of done call.conn fid) in
    let most = read_count done call count in
    let free = not_first (waits_under done call.conn call.tag) unused in
    where_so P (is_rpc node) _ _
    (λ is. talk_grows ⊥ P call (λ d q x. absurd x) (spoken_keeps P k call.conn) fid most (conv_of done call.conn fid) done refl (λ none. read_waits done call fid offset count e free is none) p)
    (where_so P (is_line_file node) _ (reading done call.conn fid offset most node)
    (λ is. line_file_grows ⊥ P call (spoken_keeps P k call.conn) fid most node (found most (lines_in done node)) done (λ none. line_read_waits done call fid offset count e free is none) p)
    (reading_keeps P k call.conn fid offset most node done p))
body_keeps P k lines done call (t.Write fid offset content) e unused w p =
    let kind = kind_at (node_of (fid_of done call.conn fid)) in
    where_so P (is_rpc (node_of (fid_of done call.conn fid))) _ _
    (λ is. stored_grows ⊥ P call.conn (spoken_keeps P k call.conn) (conv_of done call.conn fid) (rpc.request_of content) done p)
    (where_so P (is_some kind) _ _ (λ is. replying_any P (met_keeps P k) kind (prompt.reply_of content) done p)
    (lines call.conn (lines_of content) done p))
body_keeps P k lines done call (t.Clunk fid) e unused w p = ends_keep P k (OfFids call.conn (Clunked fid)) refl done p
body_keeps P k lines done call (t.Remove fid) e unused w p = ends_keep P k (OfFids call.conn (Clunked fid)) refl done p
body_keeps P k lines done call (t.Stat fid) e unused w p = p
body_keeps P k lines done call (t.Wstat fid stat) e unused w p = p

granted_keeps : (P : List Deed → Type 0) → KeepsPlain P → KeepsLines P → (done : List Deed) (call : Call) (g : Result TBody (List ℕ)) → ((body : TBody) → g ≡ Ok body → Passed done call body) → OkIs (KeepsWalk P) g → P done → P (after_granted done call g)
granted_keeps P k lines done call (Err text) passes w p = p
granted_keeps P k lines done call (Ok body) passes w p = let q = passes body refl in body_keeps P k lines done call body q.none q.unused w p

frame_keeps : (P : List Deed → Type 0) → KeepsPlain P → KeepsLines P → (done : List Deed) (call : Call) (frame : List ℕ) → ((m : TMsg) → request_of frame ≡ Some m → KeepsWalk P m.body) → P done → P (after_frame done call frame)
unfolding after_frame
frame_keeps P k lines done call frame w p = granted_keeps P k lines done call (granted done call frame) (none_refuses done call frame) (granted_so (KeepsWalk P) done call frame w) p

-- ---- events

entered_keeps : (P : List Deed → Type 0) → KeepsPlain P → (at : ℕ) (done : List Deed) → P done → P (entered at done)
entered_keeps P k at done p = where_so P (was_opened done at) done (OfConnection at Entered ∷ done) (λ _. p) (k done (OfConnection at Entered) refl p)

replied_keeps : (P : List Deed → Type 0) → KeepsPlain P → (call : Call) (o : Option RBody) (done : List Deed) → P done → P (replied call o done)
replied_keeps P k call None done p = p
replied_keeps P k call (Some body) done p = k done (OfReplies call.conn (Answered call.tag body)) refl p

swept_keeps : (P : List Deed → Type 0) → KeepsPlain P → (done : List Deed) → P done → P (swept done)
swept_keeps P k done p = where_so P (has_settled done) (Swept ∷ done) done (λ _. k done Swept refl p) p

taking_keeps : (P : List Deed → Type 0) → KeepsPlain P → (at : ℕ) (left : List RMsg) (done : List Deed) → P done → P (taking at left done)
taking_keeps P k at [] done p = p
taking_keeps P k at (reply ∷ rest) done p = k done (OfReplies at Taken) refl p

handing_keeps : (P : List Deed → Type 0) → KeepsPlain P → (o : Due) (done : List Deed) → P done → P (handing o done)
handing_keeps P k NoneDue done p = p
handing_keeps P k (DropDue drop) done p = k done DropTaken refl p
handing_keeps P k (QuestionDue question) done p = k done HandedOut refl p

-- an event keeps it where the walk of its request does
abbrev pub KeepsFrame : (List Deed → Type 0) → Event → Type 0
KeepsFrame P (Request at frame word) = (m : TMsg) → request_of frame ≡ Some m → KeepsWalk P m.body
KeepsFrame P event = Unit {0}

event_keeps : (P : List Deed → Type 0) → KeepsPlain P → KeepsLines P → (e : Event) (done : List Deed) → KeepsFrame P e → P done → P (does done e)
event_keeps P k lines (Request at frame word) done w p =
    let opened = entered at done in
    let call = call_of at frame word in
    where_so P (was_hung done at) done _ (λ _. p)
    (swept_keeps P k (answered opened call frame) (replied_keeps P k call (body_to opened call frame) (after_frame opened call frame) (frame_keeps P k lines opened call frame w (entered_keeps P k at done p))))
event_keeps P k lines (Take at) done w p = where_so P (was_hung done at) done _ (λ _. p) (taking_keeps P k at (untaken done at) (entered at done) (entered_keeps P k at done p))
event_keeps P k lines (Hang at) done w p = where_so P (was_opened done at && not (was_hung done at)) _ done (λ _. swept_keeps P k (given_up_by (OfConnection at Hung) done) (ends_keep P k (OfConnection at Hung) refl done p)) p
event_keeps P k lines Stop done w p = k done Halted refl p
event_keeps P k lines (Answer number bytes) done w p = answer_does ⊥ P (told_keeps P k) number bytes done (λ x. absurd x) p
event_keeps P k lines (NoAnswer number) done w p = no_answer_does ⊥ P (told_keeps P k) number done (λ x. absurd x) p
event_keeps P k lines (NoRoom number) done w p = no_room_does ⊥ P (told_keeps P k) number done (λ x. absurd x) p
event_keeps P k lines TakeAsk done w p = handing_keeps P k (due done) done p

pub driven_keeps : (P : List Deed → Type 0) → KeepsPlain P → KeepsLines P → (e : Event) (H : History) → KeepsFrame P e → P (deeds H) → P (deeds (e ∷ H))
driven_keeps P k lines e H w p = last_or_not P H e (λ done q. k done Halted refl q) p (event_keeps P k lines e (deeds H) w p)

any_frame : (P : List Deed → Type 0) → ((body : TBody) → KeepsWalk P body) → (e : Event) → KeepsFrame P e
any_frame P walks (Request at frame word) = λ m is. walks m.body
any_frame P walks (Take at) = tt
any_frame P walks (Hang at) = tt
any_frame P walks Stop = tt
any_frame P walks (Answer number bytes) = tt
any_frame P walks (NoAnswer number) = tt
any_frame P walks (NoRoom number) = tt
any_frame P walks TakeAsk = tt

pub history_keeps : (P : List Deed → Type 0) → KeepsPlain P → KeepsLines P → ((body : TBody) → KeepsWalk P body) → P [] → (H : History) → P (deeds H)
history_keeps P k lines walks p [] = p
history_keeps P k lines walks p (e ∷ H) = driven_keeps P k lines e H (any_frame P walks e) (history_keeps P k lines walks p H)
