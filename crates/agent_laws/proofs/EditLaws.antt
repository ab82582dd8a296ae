-- No event both edits keys and lets a conversation meet something, so that a search is over the keys of the history before
-- its event.
use Rattle.std.proofs.Common.{◌≡◌, ℕ, List, [], ◌∷◌, ◌++◌, Bool, true, false, cond, eqb, ◌&&◌, not, Option, Some, None, refl, sym, ap, subst, ◌∙◌, inl, inr, append_assoc}
use Rattle.std.specs.Prelude.{◌⊎◌, Result, Ok, Err, is_some}
use Rattle.std.specs.List.{list_all}
use Rattle.std.proofs.lemmas.Bool.{and_parts}
use Rattle.std.proofs.lemmas.List.{append_cancel_right}
use Rattle.std.proofs.lemmas.List.Folds.{list_all-append}
use Rattle.nine.specs.declared.message.RMsg.{RMsg}
use Rattle.nine.specs.declared.message.RBody.{RBody}
use Rattle.nine.specs.declared.message.TBody.{TBody}
use Rattle.nine.specs.declared.message.TBody.TheVariants as t
use Rattle.file_tree.specs.declared.tree.Node.{Node}
use Rattle.file_tree.specs.declared.tree.Node.TheVariants.{Root, Factotum, Rpc, Ctl, Confirm, Needkey, Proto, Log}
use Rattle.file_tree.specs.Tree.{lead_to}
use Rattle.file_tree.specs.Directories.{dir_end}
use Rattle.file_tree.specs.Calls.{node_of}
use Rattle.key_lists.specs.CtlLines.{lines_of}
use Rattle.talks.specs.Requests.{request_of}
use Rattle.talks.specs.Calls as calls
use Rattle.talks.specs.Calls.{Found}
use Rattle.talks.specs.Standings.{finds}
use Rattle.agent_history.specs.declared.event.Event.{Event}
use Rattle.agent_history.specs.declared.event.Event.TheVariants.{Request, Hang, Answer, NoAnswer, NoRoom, Take, TakeAsk, Stop}
use Rattle.agent_history.specs.Deeds.{Deed, OfFids, OfKeys, OfReplies, OfConnection, OfTalk, Raised, HandedOut, OfPrompts, OfLog, DropTaken, Swept, Halted, Versioned, Attached, Walked, Opened, Listed, Browsed, Clunked, Answered, Flushed, Taken, Entered, Hung, fid_of, keys_of, was_hung, was_opened}
use Rattle.agent_history.specs.Replies.{has_settled, swept, untaken, waits_under}
use Rattle.agent_history.specs.Conversations.{asking, conv_of, standing_of, Due, NoneDue, DropDue, QuestionDue, due, given_up_by}
use Rattle.agent_history.specs.Requests.{Call, after, after_frame, after_granted, agreed, answered, body_to, call_of, comes_first, granted, is_rpc, reading, refusal, replied, walking}
use Rattle.agent_history.specs.Histories.{History, deeds, does, entered, handing, taking}
use Rattle.agent_laws.specs.Laws.{Adds, AllSearched, is_edit, is_talk}
use Rattle.agent_laws.proofs.KindLaws.{KeepsIf, KeepsOf, is_line, is_spoken, is_told_so, is_met}
use Rattle.agent_laws.proofs.MetLaws.{lines_grow, stored_grows, talk_grows, line_file_grows}
use Rattle.agent_laws.proofs.GrowLaws.{Passed, answer_does, last_or_not, no_answer_does, no_room_does, none_refuses, not_first, read_count, read_waits, KeepsAny, given_up_any, line_read_waits, met_by, replying_any}
use Rattle.agent_laws.proofs.ConversationLaws.{all_searched}
use Rattle.agent_history.specs.SideFiles.{is_line_file, kind_at, lines_in}
use Rattle.side_files.specs.Lines.{found}
use Rattle.side_files.specs.Replies as prompt

-- ---- deeds of one kind

abbrev Plain : (Deed → Bool) → Type 0
Plain kind = (deed : Deed) → (is_edit deed ≡ false) × (is_talk deed ≡ false) → kind deed ≡ true

abbrev no_edit : Deed → Bool
no_edit deed = not (is_edit deed)

abbrev no_talk : Deed → Bool
no_talk deed = not (is_talk deed)

no_edit_plain : Plain no_edit
no_edit_plain deed e = ap not e.0

no_talk_plain : Plain no_talk
no_talk_plain deed e = ap not e.1

adds_none : (kind : Deed → Bool) (done : List Deed) → Adds kind done done
adds_none kind done = ([], refl, refl)

adds_one : (kind : Deed → Bool) (before done : List Deed) (deed : Deed) → kind deed ≡ true → Adds kind before done → Adds kind before (deed ∷ done)
adds_one kind before done deed e h = (deed ∷ h.0, ap (λ (ds : List Deed). deed ∷ ds) h.1, rw e h.2)

adds_then : (kind : Deed → Bool) (before middle after : List Deed) → Adds kind before middle → Adds kind middle after → Adds kind before after
adds_then kind before middle after h k = (
  k.0 ++ h.0,
  k.1 ∙ ap (λ (ds : List Deed). k.0 ++ ds) h.1 ∙ sym (append_assoc k.0 h.0 before),
  list_all-append kind k.0 h.0 ∙ rw (k.2, h.2) refl,
)

-- no line of ctl is among them, or nothing that a conversation met
abbrev Apart : List Deed → List Deed → Type 0
Apart before after = Adds no_edit before after ⊎ Adds no_talk before after

one_plain : (before done : List Deed) (deed : Deed) → (is_edit deed ≡ false) × (is_talk deed ≡ false) → Apart before done → Apart before (deed ∷ done)
one_plain before done deed e (inl h) = inl (adds_one no_edit before done deed (no_edit_plain deed e) h)
one_plain before done deed e (inr h) = inr (adds_one no_talk before done deed (no_talk_plain deed e) h)

-- plain deeds first
plain_then : (before middle after : List Deed) → ((kind : Deed → Bool) → Plain kind → Adds kind before middle) → Apart middle after → Apart before after
plain_then before middle after f (inl h) = inl (adds_then no_edit before middle after (f no_edit no_edit_plain) h)
plain_then before middle after f (inr h) = inr (adds_then no_talk before middle after (f no_talk no_talk_plain) h)

-- ---- what conversations meet edits no keys

spoken_edits : (conn : ℕ) (deed : Deed) → is_spoken conn deed ≡ true → no_edit deed ≡ true
spoken_edits conn (OfKeys at deed) e = absurd cc
spoken_edits conn (OfFids at deed) e = refl
spoken_edits conn (OfReplies at deed) e = refl
spoken_edits conn (OfConnection at deed) e = refl
spoken_edits conn (OfTalk conv call) e = refl
spoken_edits conn (Raised conv) e = refl
spoken_edits conn HandedOut e = refl
spoken_edits conn DropTaken e = refl
spoken_edits conn (OfPrompts about doing) e = refl
spoken_edits conn (OfLog doing) e = refl
spoken_edits conn Swept e = refl
spoken_edits conn Halted e = refl

told_edits : (deed : Deed) → is_told_so deed ≡ true → no_edit deed ≡ true
told_edits (OfKeys at deed) e = absurd cc
told_edits (OfFids at deed) e = refl
told_edits (OfReplies at deed) e = refl
told_edits (OfConnection at deed) e = refl
told_edits (OfTalk conv call) e = refl
told_edits (Raised conv) e = refl
told_edits HandedOut e = refl
told_edits DropTaken e = refl
told_edits (OfPrompts about doing) e = refl
told_edits (OfLog doing) e = refl
told_edits Swept e = refl
told_edits Halted e = refl

met_edits : (deed : Deed) → is_met deed ≡ true → no_edit deed ≡ true
met_edits (OfKeys at deed) e = absurd cc
met_edits (OfTalk conv call) e = refl
met_edits (OfPrompts about doing) e = refl
met_edits (OfLog doing) e = refl
met_edits (Raised conv) e = refl
met_edits (OfFids at deed) e = refl
met_edits (OfConnection at deed) e = refl
met_edits (OfReplies at deed) e = refl
met_edits HandedOut e = refl
met_edits DropTaken e = refl
met_edits Swept e = refl
met_edits Halted e = refl

line_talks : (conn : ℕ) (deed : Deed) → is_line conn deed ≡ true → no_talk deed ≡ true
line_talks conn (OfKeys at deed) e = refl
line_talks conn (OfTalk conv call) e = absurd cc
line_talks conn (OfFids at deed) e = refl
line_talks conn (OfReplies at deed) e = refl
line_talks conn (OfConnection at deed) e = refl
line_talks conn (Raised conv) e = refl
line_talks conn HandedOut e = refl
line_talks conn DropTaken e = refl
line_talks conn (OfPrompts about doing) e = refl
line_talks conn (OfLog doing) e = refl
line_talks conn Swept e = refl
line_talks conn Halted e = refl

spoken_adds : (Known : Type 0) (conn : ℕ) (before : List Deed) → KeepsIf Known (is_spoken conn) (Adds no_edit before)
spoken_adds Known conn before done deed kind fits h = adds_one no_edit before done deed (spoken_edits conn deed kind) h

told_adds : (Known : Type 0) (before : List Deed) → KeepsIf Known is_told_so (Adds no_edit before)
told_adds Known before done deed kind fits h = adds_one no_edit before done deed (told_edits deed kind) h

line_adds : (conn : ℕ) (before : List Deed) → KeepsOf (is_line conn) (Adds no_talk before)
line_adds conn before done deed kind fits h = adds_one no_talk before done deed (line_talks conn deed kind) h

met_adds : (before : List Deed) → KeepsAny is_met (Adds no_edit before)
met_adds before done deed is h = adds_one no_edit before done deed (met_edits deed is) h

ends_apart : (deed : Deed) → no_edit deed ≡ true → (done : List Deed) → Adds no_edit done (given_up_by deed done)
ends_apart deed plain done = given_up_any (Adds no_edit done) (met_by (Adds no_edit done) (met_adds done)) deed done (λ d h. adds_one no_edit done d deed plain h) (adds_none no_edit done)

-- ---- requests

walking_apart : (conn newfid : ℕ) (found : Option Node) (done : List Deed) → Apart done (walking conn newfid found done)
walking_apart conn newfid None done = inl (adds_none no_edit done)
walking_apart conn newfid (Some node) done = inl (OfFids conn (Walked newfid node) ∷ [], refl, refl)

listing_apart : (b : Bool) (conn fid : ℕ) (done : List Deed) → Adds no_edit done (cond b (OfFids conn (Listed fid) ∷ done) done)
listing_apart true conn fid done = (OfFids conn (Listed fid) ∷ [], refl, refl)
listing_apart false conn fid done = adds_none no_edit done

reading_apart : (conn fid offset count : ℕ) (node : Node) (done : List Deed) → Adds no_edit done (reading done conn fid offset count node)
reading_apart conn fid offset count Root done = (OfFids conn (Browsed fid (dir_end Root offset count)) ∷ [], refl, refl)
reading_apart conn fid offset count Factotum done = (OfFids conn (Browsed fid (dir_end Factotum offset count)) ∷ [], refl, refl)
reading_apart conn fid offset count Ctl done = listing_apart (eqb offset 0) conn fid done
reading_apart conn fid offset count Rpc done = adds_none no_edit done
reading_apart conn fid offset count Confirm done = adds_none no_edit done
reading_apart conn fid offset count Needkey done = adds_none no_edit done
reading_apart conn fid offset count Proto done = adds_none no_edit done
reading_apart conn fid offset count Log done = adds_none no_edit done

either_edits : (b : Bool) (done one other : List Deed) → (b ≡ true → Adds no_edit done one) → Adds no_edit done other → Adds no_edit done (cond b one other)
either_edits true done one other h k = h refl
either_edits false done one other h k = k

either_apart : (b : Bool) (done one other : List Deed) → Apart done one → Apart done other → Apart done (cond b one other)
either_apart true done one other h k = h
either_apart false done one other h k = k

body_apart : (done : List Deed) (call : Call) (body : TBody) → refusal done call body ≡ None → waits_under done call.conn call.tag ≡ false ⊎ (comes_first body ≡ true) → Apart done (after done call body)
unfolding after
body_apart done call (t.Version msize version) e unused = inl (ends_apart (OfFids call.conn (Versioned (agreed msize version))) refl done)
body_apart done call (t.Auth afid uname aname) e unused = inl (adds_none no_edit done)
body_apart done call (t.Attach fid afid uname aname) e unused = inl (OfFids call.conn (Attached fid) ∷ [], refl, refl)
body_apart done call (t.Flush oldtag) e unused = inl (OfReplies call.conn (Flushed oldtag) ∷ [], refl, refl)
body_apart done call (t.Walk fid newfid wname) e unused = walking_apart call.conn newfid (lead_to (node_of (fid_of done call.conn fid)) wname) done
body_apart done call (t.Open fid mode) e unused = inl (OfFids call.conn (Opened fid mode) ∷ [], refl, refl)
body_apart done call (t.Create fid name perm mode) e unused = inl (adds_none no_edit done)
body_apart done call (t.Read fid offset count) e unused =
    let node = node_of (fid_of done call.conn fid) in
    let most = read_count done call count in
    let free = not_first (waits_under done call.conn call.tag) unused in
    inl (either_edits (is_rpc node) done _ _
    (λ is. talk_grows ⊥ (Adds no_edit done) call (λ d p x. absurd x) (spoken_adds ⊥ call.conn done) fid most (conv_of done call.conn fid) done refl (λ none. read_waits done call fid offset count e free is none) (adds_none no_edit done))
    (either_edits (is_line_file node) done _ (reading done call.conn fid offset most node)
    (λ is. line_file_grows ⊥ (Adds no_edit done) call (spoken_adds ⊥ call.conn done) fid most node (found most (lines_in done node)) done (λ none. line_read_waits done call fid offset count e free is none) (adds_none no_edit done))
    (reading_apart call.conn fid offset most node done)))
body_apart done call (t.Write fid offset content) e unused =
    let kind = kind_at (node_of (fid_of done call.conn fid)) in
    either_apart (is_rpc (node_of (fid_of done call.conn fid))) done _ _
    (inl (stored_grows ⊥ (Adds no_edit done) call.conn (spoken_adds ⊥ call.conn done) (conv_of done call.conn fid) (request_of content) done (adds_none no_edit done)))
    (either_apart (is_some kind) done _ _ (inl (replying_any (Adds no_edit done) (met_adds done) kind (prompt.reply_of content) done (adds_none no_edit done)))
    (inr (lines_grow (Adds no_talk done) call.conn (line_adds call.conn done) (lines_of content) done (adds_none no_talk done))))
body_apart done call (t.Clunk fid) e unused = inl (ends_apart (OfFids call.conn (Clunked fid)) refl done)
body_apart done call (t.Remove fid) e unused = inl (ends_apart (OfFids call.conn (Clunked fid)) refl done)
body_apart done call (t.Stat fid) e unused = inl (adds_none no_edit done)
body_apart done call (t.Wstat fid stat) e unused = inl (adds_none no_edit done)

granted_apart : (done : List Deed) (call : Call) (g : Result TBody (List ℕ)) → ((body : TBody) → g ≡ Ok body → Passed done call body) → Apart done (after_granted done call g)
granted_apart done call (Err text) passes = inl (adds_none no_edit done)
granted_apart done call (Ok body) passes = let p = passes body refl in body_apart done call body p.none p.unused

frame_apart : (done : List Deed) (call : Call) (frame : List ℕ) → Apart done (after_frame done call frame)
unfolding after_frame
frame_apart done call frame = granted_apart done call (granted done call frame) (none_refuses done call frame)

-- ---- events

entered_plain : (at : ℕ) (done : List Deed) (kind : Deed → Bool) → Plain kind → Adds kind done (entered at done)
entered_plain at done kind plain = by_cases (was_opened done at)
  where
    by_cases : (b : Bool) → Adds kind done (cond b done (OfConnection at Entered ∷ done))
    by_cases true = adds_none kind done
    by_cases false = adds_one kind done done (OfConnection at Entered) (plain (OfConnection at Entered) (refl, refl)) (adds_none kind done)

replied_apart : (before : List Deed) (call : Call) (o : Option RBody) (done : List Deed) → Apart before done → Apart before (replied call o done)
replied_apart before call None done h = h
replied_apart before call (Some body) done h = one_plain before done (OfReplies call.conn (Answered call.tag body)) (refl, refl) h

swept_apart : (before done : List Deed) → Apart before done → Apart before (swept done)
swept_apart before done h = either_apart (has_settled done) before (Swept ∷ done) done (one_plain before done Swept (refl, refl) h) h

taking_apart : (at : ℕ) (left : List RMsg) (before done : List Deed) → Apart before done → Apart before (taking at left done)
taking_apart at [] before done h = h
taking_apart at (reply ∷ rest) before done h = one_plain before done (OfReplies at Taken) (refl, refl) h

handing_apart : (o : Due) (done : List Deed) → Apart done (handing o done)
handing_apart NoneDue done = inl (adds_none no_edit done)
handing_apart (DropDue drop) done = inl (DropTaken ∷ [], refl, refl)
handing_apart (QuestionDue question) done = inl (HandedOut ∷ [], refl, refl)

event_apart : (e : Event) (done : List Deed) → Apart done (does done e)
event_apart (Request at frame word) done =
    let opened = entered at done in
    let call = call_of at frame word in
    either_apart (was_hung done at) done done _ (inl (adds_none no_edit done))
    (swept_apart done (answered opened call frame) (replied_apart done call (body_to opened call frame) (after_frame opened call frame) (plain_then done opened (after_frame opened call frame) (entered_plain at done) (frame_apart opened call frame))))
event_apart (Take at) done =
    let opened = entered at done in
    either_apart (was_hung done at) done done _ (inl (adds_none no_edit done)) (taking_apart at (untaken done at) done opened (inl (entered_plain at done no_edit no_edit_plain)))
event_apart (Hang at) done = either_apart (was_opened done at && not (was_hung done at)) done _ done (swept_apart done (given_up_by (OfConnection at Hung) done) (inl (ends_apart (OfConnection at Hung) refl done))) (inl (adds_none no_edit done))
event_apart Stop done = inl (Halted ∷ [], refl, refl)
event_apart (Answer number bytes) done = inl (answer_does ⊥ (Adds no_edit done) (told_adds ⊥ done) number bytes done (λ x. absurd x) (adds_none no_edit done))
event_apart (NoAnswer number) done = inl (no_answer_does ⊥ (Adds no_edit done) (told_adds ⊥ done) number done (λ x. absurd x) (adds_none no_edit done))
event_apart (NoRoom number) done = inl (no_room_does ⊥ (Adds no_edit done) (told_adds ⊥ done) number done (λ x. absurd x) (adds_none no_edit done))
event_apart TakeAsk done = handing_apart (due done) done

pub edits_or_talks : (e : Event) (H : History) → Adds no_edit (deeds H) (deeds (e ∷ H)) ⊎ Adds no_talk (deeds H) (deeds (e ∷ H))
edits_or_talks e H = last_or_not (Apart (deeds H)) H e (λ done h. one_plain (deeds H) done Halted (refl, refl) h) (inl (adds_none no_edit (deeds H))) (event_apart e (deeds H))

-- ---- a search is over the keys before its event

searched_behind : (deed : Deed) (done : List Deed) → AllSearched (deed ∷ done) → AllSearched done
searched_behind (OfTalk conv (calls.Sought found)) done h = h.1
searched_behind (OfTalk conv (calls.Heard bytes)) done h = h
searched_behind (OfTalk conv calls.Unheard) done h = h
searched_behind (OfTalk conv calls.Roomless) done h = h
searched_behind (OfTalk conv (calls.Stored request)) done h = h
searched_behind (OfTalk conv (calls.CarriedOut word)) done h = h
searched_behind (OfTalk conv (calls.Consented agrees)) done h = h
searched_behind (OfTalk conv calls.KeyTold) done h = h
searched_behind (OfTalk conv calls.Shut) done h = h
searched_behind (OfTalk conv calls.Took) done h = h
searched_behind (OfFids at deed) done h = h
searched_behind (OfKeys at deed) done h = h
searched_behind (OfReplies at deed) done h = h
searched_behind (OfConnection at deed) done h = h
searched_behind (Raised conv) done h = h
searched_behind HandedOut done h = h
searched_behind DropTaken done h = h
searched_behind (OfPrompts about doing) done h = h
searched_behind (OfLog doing) done h = h
searched_behind Swept done h = h
searched_behind Halted done h = h

searched_in : (later done : List Deed) → AllSearched (later ++ done) → AllSearched done
searched_in [] done h = h
searched_in (deed ∷ later) done h = searched_in later done (searched_behind deed (later ++ done) h)

-- where no line of ctl is among some deeds they leave the keys
key_step : (deed : Deed) (done : List Deed) → no_edit deed ≡ true → keys_of (deed ∷ done) ≡ keys_of done
key_step (OfKeys at deed) done e = absurd cc
key_step (OfFids at deed) done e = refl
key_step (OfReplies at deed) done e = refl
key_step (OfConnection at deed) done e = refl
key_step (OfTalk conv call) done e = refl
key_step (Raised conv) done e = refl
key_step HandedOut done e = refl
key_step DropTaken done e = refl
key_step (OfPrompts about doing) done e = refl
key_step (OfLog doing) done e = refl
key_step Swept done e = refl
key_step Halted done e = refl

keys_stay : (more done : List Deed) → list_all no_edit more ≡ true → keys_of (more ++ done) ≡ keys_of done
keys_stay [] done e = refl
keys_stay (deed ∷ more) done e = let parts = and_parts (no_edit deed) (list_all no_edit more) e in key_step deed (more ++ done) parts.0 ∙ keys_stay more done parts.1

-- those behind some of them
behind_all : (kind : Deed → Bool) (later : List Deed) (deed : Deed) (earlier : List Deed) → list_all kind (later ++ deed ∷ earlier) ≡ true → (kind deed ≡ true) × (list_all kind earlier ≡ true)
behind_all kind later deed earlier e =
    let parts = and_parts (list_all kind later) (list_all kind (deed ∷ earlier)) (sym (list_all-append kind later (deed ∷ earlier)) ∙ e) in
    and_parts (kind deed) (list_all kind earlier) parts.1

keys_before : (later earlier done last : List Deed) (conv : ℕ) (found : Found) → last ≡ later ++ OfTalk conv (calls.Sought found) ∷ (earlier ++ done) → Apart done last → keys_of (earlier ++ done) ≡ keys_of done
keys_before later earlier done last conv found e (inl h) =
    let deed = OfTalk conv (calls.Sought found) in
    let same : later ++ deed ∷ earlier ≡ h.0 = append_cancel_right (later ++ deed ∷ earlier) h.0 done (append_assoc later (deed ∷ earlier) done ∙ sym e ∙ h.1) in
    keys_stay earlier done (behind_all no_edit later deed earlier (ap (list_all no_edit) same ∙ h.2)).1
keys_before later earlier done last conv found e (inr h) =
    let deed = OfTalk conv (calls.Sought found) in
    let same : later ++ deed ∷ earlier ≡ h.0 = append_cancel_right (later ++ deed ∷ earlier) h.0 done (append_assoc later (deed ∷ earlier) done ∙ sym e ∙ h.1) in
    absurd (let no_way : false ≡ true = (behind_all no_talk later deed earlier (ap (list_all no_talk) same ∙ h.2)).0 in cc)

pub searches_keys_before : (e : Event) (H : History) (later earlier : List Deed) (conv : ℕ) (found : Found) → deeds (e ∷ H) ≡ later ++ OfTalk conv (calls.Sought found) ∷ (earlier ++ deeds H)
    → found ≡ finds (standing_of (earlier ++ deeds H) conv) (asking (earlier ++ deeds H)) (keys_of (deeds H))
searches_keys_before e H later earlier conv found is =
    let before = earlier ++ deeds H in
    let searched = searched_in later (OfTalk conv (calls.Sought found) ∷ before) (subst AllSearched is (all_searched (e ∷ H))) in
    searched.0 ∙ ap (finds (standing_of before conv) (asking before)) (keys_before later earlier (deeds H) (deeds (e ∷ H)) conv found is (edits_or_talks e H))
