-- What histories did in public is the same where they are the same without their secrets, entry by entry.
use Rattle.std.proofs.Common.{◌≡◌, ◌+◌, ℕ, List, [], ◌∷◌, map, Bool, true, false, cond, eqb, ltb, ◌&&◌, not, Option, Some, None, refl, sym, ap, ◌∙◌, subst, length, arith, codes}
use Rattle.std.specs.Prelude.{is_some, Result, Err, Ok, find, option_map}
use Rattle.std.specs.List.{list_all}
use Rattle.std.proofs.lemmas.Bool.{and_parts}
use Rattle.nine.specs.declared.message.RBody.{RBody}
use Rattle.nine.specs.declared.message.RMsg.{RMsg}
use Rattle.nine.specs.declared.message.TBody.{TBody}
use Rattle.nine.specs.declared.message.TBody.TheVariants as t
use Rattle.nine.specs.declared.message.TMsg.{TMsg}
use Rattle.nine.specs.Decoding.{request_of}
use Rattle.file_tree.specs.declared.tree.Node.{Node}
use Rattle.file_tree.specs.Calls.{is_open, mode_of, node_of}
use Rattle.side_files.specs.Lines.{found as line_for}
use Rattle.key_lists.specs.CtlLines.{CtlLine, OnKeys, Debug, carried_out, lines_of}
use Rattle.talks.specs.Requests.{RpcRequest}
use Rattle.talks.specs.Requests as rpc
use Rattle.talks.specs.declared.request.RpcFault.{RpcFault}
use Rattle.side_files.specs.Replies as prompt
use Rattle.talks.specs.Calls as calls
use Rattle.talks.specs.Standings.{Phase, Resting, Waiting, Seeking, OnConfirm, OnNeedkey, OnServer, Kept, standing}
use Rattle.agent_history.specs.declared.event.Event.{Event}
use Rattle.agent_history.specs.declared.event.Event.TheVariants.{Request, Hang, Answer, NoAnswer, NoRoom, Take, TakeAsk, Stop}
use Rattle.agent_history.specs.Deeds.{Deed, KeyDeed, OfKeys, OfConnection, Edited, Switched, Entered, Hung, fid_of, is_halted, keys_of, msize_of, next_of, was_hung, was_opened}
use Rattle.agent_history.specs.Replies.{has_settled, swept, untaken, waits, waits_for, Wait, is_unsettled}
use Rattle.agent_history.specs.SideFiles.{is_line_file, kind_at, lines_in}
use Rattle.agent_history.specs.Conversations.{Due, NoneDue, DropDue, QuestionDue, Question, Speaker, asker, conv_of, due, given_up_by, hand_first, questions, raised, resumed, speakers, standing_of, stands, talk}
use Rattle.agent_history.specs.Requests.{Call, after, after_frame, after_granted, body_to, call_of, effective, granted, granted_body, is_elsewhere, is_over, is_resting, is_rpc, lacks_version, lets_read, lets_write, lines_done, phase_in, phase_of, reading, reading_file, reading_line, reading_talk, refusal, repeats_tag, replied, replying, stored, writing}
use Rattle.agent_history.specs.Histories.{History, deeds, does, entered, handing, most_events, taking}
use Rattle.agent_laws.specs.Laws.{all_open, asks_server, in_public, is_on_server, lines_told, unsized}
use Rattle.agent_laws.specs.Shown.{ShownRequest, ShownResult, came_to, shown_content}
use Rattle.agent_laws.specs.Redaction.{Redacted, Stays, Unread, Came, CtlWritten, RpcWritten, RpcRead, ServerAnswered, ShownLine, shown_line, answer_result, body_redaction, ctl_redaction, message_redaction, redact, redaction, result_in, rpc_read_redaction, rpc_redaction}
use Rattle.agent_laws.proofs.SizedLaws.{alike, entered_serves, halted_sized, hung_sized, keys_sized, opened_sized, serves, settled_sized, sight, sized_sight, speakers_sized}
use Rattle.agent_laws.proofs.SizeLaws.{waits_unsized}
use Rattle.agent_laws.proofs.PublicLaws.{bare, body_to_public, saw, waits_public, waits_same}
use Rattle.agent_laws.proofs.WaitLaws.{reads_wait}
use Rattle.agent_laws.proofs.AskLaws.{asker_is_asked}
use Rattle.agent_laws.proofs.HiddenLaws.{hidden_list}
use Rattle.agent_laws.proofs.KindLaws.{IsKnown, same_number}
use Rattle.agent_laws.proofs.MetLaws.{choice_none, or_none}
use Rattle.agent_laws.proofs.GrowLaws.{all_are_known, known_more, none_refuses, not_false, where_true, Passed}
use Rattle.agent_laws.proofs.SecretLaws.{deeds_open, lines_open}
use Rattle.agent_laws.proofs.LineLaws.{carried_tupled, is_tupled, lines_tell, public_line}
use Rattle.agent_laws.proofs.ShownLaws.{Shown, shown}
use Rattle.agent_laws.proofs.AlongLaws.{Along, along_choice, along_connection, along_halted, along_swept, numbered, numbers}
use Rattle.agent_laws.proofs.ResumeLaws.{Goes as GoesOn, heard_at, met_up, roomless_at, unheard_at}
use Rattle.agent_laws.proofs.GoesLaws.{ReadsOn, WritesOn, along_heard, along_roomless, along_server, along_stored, along_talk_read, along_unheard, with_word}
use Rattle.agent_laws.proofs.FrameLaws.{Beside, bad_frame, framed, framed_alike, framed_worded, gone_alike, granted_message, hung, is_plain, over_frame, tested}

-- ---- deeds that change nothing of what is shown

replied_one : (call : Call) (o : Option RBody) (a b : List Deed) → Along a b → Along (replied call o a) b
replied_one call None a b s = s
replied_one call (Some body) a b s = record { public = s.public; keys = s.keys; asked = s.asked; asks = s.asks; talks = s.talks; settled = s.settled }

replied_other : (call : Call) (o : Option RBody) (a b : List Deed) → Along a b → Along a (replied call o b)
replied_other call None a b s = s
replied_other call (Some body) a b s = record { public = s.public; keys = s.keys; asked = s.asked; asks = s.asks; talks = s.talks; settled = s.settled }

taking_one : (at : ℕ) (left : List RMsg) (a b : List Deed) → Along a b → Along (taking at left a) b
taking_one at [] a b s = s
taking_one at (reply ∷ rest) a b s = record { public = s.public; keys = s.keys; asked = s.asked; asks = s.asks; talks = s.talks; settled = s.settled }

taking_other : (at : ℕ) (left : List RMsg) (a b : List Deed) → Along a b → Along a (taking at left b)
taking_other at [] a b s = s
taking_other at (reply ∷ rest) a b s = record { public = s.public; keys = s.keys; asked = s.asked; asks = s.asks; talks = s.talks; settled = s.settled }

hand_step : (q : Question) (qs : List Question) (x : Bool) → map numbered (hand_first qs) ≡ map numbered qs → map numbered (cond x (q ∷ hand_first qs) (record { call = q.call; conv = q.conv; handed = true } ∷ qs)) ≡ map numbered (q ∷ qs)
hand_step q qs true e = ap (λ (ns : List (ℕ × ℕ)). numbered q ∷ ns) e
hand_step q qs false e = refl

handed_numbers : (qs : List Question) → map numbered (hand_first qs) ≡ map numbered qs
handed_numbers [] = refl
handed_numbers (q ∷ qs) = hand_step q qs q.handed (handed_numbers qs)

handing_one : (o : Due) (a b : List Deed) → Along a b → Along (handing o a) b
handing_one NoneDue a b s = s
handing_one (DropDue drop) a b s = record { public = s.public; keys = s.keys; asked = s.asked; asks = s.asks; talks = s.talks; settled = s.settled }
handing_one (QuestionDue question) a b s = record { public = s.public; keys = s.keys; asked = handed_numbers (questions a) ∙ s.asked; asks = s.asks; talks = s.talks; settled = s.settled }

handing_other : (o : Due) (a b : List Deed) → Along a b → Along a (handing o b)
handing_other NoneDue a b s = s
handing_other (DropDue drop) a b s = record { public = s.public; keys = s.keys; asked = s.asked; asks = s.asks; talks = s.talks; settled = s.settled }
handing_other (QuestionDue question) a b s = record { public = s.public; keys = s.keys; asked = s.asked ∙ sym (handed_numbers (questions b)); asks = s.asks; talks = s.talks; settled = s.settled }

swept_alike : (x y : List Deed) → Along x y → Along (swept x) (swept y)
swept_alike x y s = along_choice (has_settled x) (has_settled y) _ _ x y (alike has_settled settled_sized x y s.public) (λ is. along_swept x y s) (λ is. s)

-- ---- a connection is opened

entered_alike : (at : ℕ) (a b : List Deed) → Along a b → Along (entered at a) (entered at b)
entered_alike at a b s = along_choice (was_opened a at) (was_opened b at) a b _ _ (alike (λ done. was_opened done at) (λ done. opened_sized done at) a b s.public) (λ is. s) (λ is. along_connection at Entered a b s)

entered_open : (at : ℕ) (done : List Deed) → all_open done ≡ true → all_open (entered at done) ≡ true
entered_open at done o = by_it (was_opened done at)
  where
    by_it : (b : Bool) → all_open (cond b done (OfConnection at Entered ∷ done)) ≡ true
    by_it true = o
    by_it false = o

entered_known : (at : ℕ) (done : List Deed) → IsKnown done → IsKnown (entered at done)
entered_known at done known = by_it (was_opened done at)
  where
    by_it : (b : Bool) → IsKnown (cond b done (OfConnection at Entered ∷ done))
    by_it true = known
    by_it false = known_more (Unit {0}) at done (OfConnection at Entered) (same_number at) tt (λ _. known) tt

entered_beside : (at : ℕ) (a b : List Deed) → Beside a b → Beside (entered at a) (entered at b)
entered_beside at a b s = record {
  along = entered_alike at a b s.along;
  one_serves = entered_serves at a s.one_serves;
  other_serves = entered_serves at b s.other_serves;
  one_open = entered_open at a s.one_open;
  other_open = entered_open at b s.other_open;
  one_known = entered_known at a s.one_known;
  other_known = entered_known at b s.other_known;
}

-- ---- what a request did, by its redaction

-- a request came on a connection, and did so much
record Goes (conn : ℕ) (before did now : List Deed) : Type 0 where
  pub call : Call
  pub reply : Option RBody
  pub is : now ≡ cond (was_hung before conn) before (swept (replied call reply did))

goes_alike : (conn : ℕ) (a b x y now then_too : List Deed) → Along a b → Along x y → Goes conn a x now → Goes conn b y then_too → Along now then_too
goes_alike conn a b x y now then_too s t g h =
    subst (λ (d : List Deed). Along d then_too) (sym g.is)
    (subst (λ (d : List Deed). Along (cond (was_hung a conn) a (swept (replied g.call g.reply x))) d) (sym h.is)
    (along_choice (was_hung a conn) (was_hung b conn) a b _ _ (alike (λ done. was_hung done conn) (λ done. hung_sized done conn) a b s.public) (λ is. s)
    (λ is. swept_alike (replied g.call g.reply x) (replied h.call h.reply y) (replied_one g.call g.reply x (replied h.call h.reply y) (replied_other h.call h.reply x y t)))))

request_goes : (done : List Deed) (at : ℕ) (frame word : List ℕ) (x : List Deed) → after_frame (entered at done) (call_of at frame word) frame ≡ x → Goes at done x (does done (Request at frame word))
request_goes done at frame word x e = record {
  call = call_of at frame word;
  reply = body_to (entered at done) (call_of at frame word) frame;
  is = ap (λ (d : List Deed). cond (was_hung done at) done (swept (replied (call_of at frame word) (body_to (entered at done) (call_of at frame word) frame) d))) e;
}

-- ---- lines of ctl

abbrev key_deeds : ℕ → List KeyDeed → List Deed → List Deed
key_deeds conn [] shown = shown
key_deeds conn (deed ∷ more) shown = key_deeds conn more (OfKeys conn deed ∷ shown)

lines_public : (conn : ℕ) (lines : List CtlLine) (done : List Deed) → in_public (lines_done conn lines done) ≡ key_deeds conn (map public_line lines) (in_public done)
lines_public conn [] done = refl
lines_public conn (OnKeys edit ∷ more) done = lines_public conn more (OfKeys conn (Edited edit) ∷ done)
lines_public conn (Debug ∷ more) done = lines_public conn more (OfKeys conn Switched ∷ done)

lines_numbers : (conn : ℕ) (lines : List CtlLine) (done : List Deed) → numbers (lines_done conn lines done) ≡ numbers done
lines_numbers conn [] done = refl
lines_numbers conn (OnKeys edit ∷ more) done = lines_numbers conn more (OfKeys conn (Edited edit) ∷ done)
lines_numbers conn (Debug ∷ more) done = lines_numbers conn more (OfKeys conn Switched ∷ done)

lines_raised : (conn : ℕ) (lines : List CtlLine) (done : List Deed) → raised (lines_done conn lines done) ≡ raised done
lines_raised conn [] done = refl
lines_raised conn (OnKeys edit ∷ more) done = lines_raised conn more (OfKeys conn (Edited edit) ∷ done)
lines_raised conn (Debug ∷ more) done = lines_raised conn more (OfKeys conn Switched ∷ done)

lines_talk : (conn : ℕ) (lines : List CtlLine) (done : List Deed) (n : ℕ) → talk (lines_done conn lines done) n ≡ talk done n
lines_talk conn [] done n = refl
lines_talk conn (OnKeys edit ∷ more) done n = lines_talk conn more (OfKeys conn (Edited edit) ∷ done) n
lines_talk conn (Debug ∷ more) done n = lines_talk conn more (OfKeys conn Switched ∷ done) n

keys_same : (a b : List Deed) → all_open a ≡ true → all_open b ≡ true → sight a ≡ sight b → hidden_list (keys_of a) ≡ hidden_list (keys_of b)
keys_same a b one other e = sym (keys_sized a one) ∙ ap keys_of e ∙ keys_sized b other

lines_unsized : (conn : ℕ) (lines : List CtlLine) (done : List Deed) → unsized (lines_done conn lines done) ≡ lines_done conn lines (unsized done)
lines_unsized conn [] done = refl
lines_unsized conn (OnKeys edit ∷ more) done = lines_unsized conn more (OfKeys conn (Edited edit) ∷ done)
lines_unsized conn (Debug ∷ more) done = lines_unsized conn more (OfKeys conn Switched ∷ done)

lines_sight : (conn : ℕ) (lines : List CtlLine) (done : List Deed) → sight (lines_done conn lines done) ≡ key_deeds conn (map public_line lines) (sight done)
lines_sight conn lines done = ap in_public (lines_unsized conn lines done) ∙ lines_public conn lines (unsized done)

lines_keep_told : (conn : ℕ) (lines : List CtlLine) (done : List Deed) → lines_told (lines_done conn lines done) ≡ lines_told done
lines_keep_told conn [] done = refl
lines_keep_told conn (OnKeys edit ∷ more) done = lines_keep_told conn more (OfKeys conn (Edited edit) ∷ done)
lines_keep_told conn (Debug ∷ more) done = lines_keep_told conn more (OfKeys conn Switched ∷ done)

lines_alike : (conn : ℕ) (xs ys : List CtlLine) (a b : List Deed) → Along a b → map public_line xs ≡ map public_line ys → all_open (lines_done conn xs a) ≡ true → all_open (lines_done conn ys b) ≡ true → Along (lines_done conn xs a) (lines_done conn ys b)
lines_alike conn xs ys a b s e one other =
    let shown = lines_sight conn xs a ∙ ap (λ (ls : List KeyDeed). key_deeds conn ls (sight a)) e ∙ ap (key_deeds conn (map public_line ys)) s.public ∙ sym (lines_sight conn ys b) in
    record {
      public = shown;
      keys = keys_same (lines_done conn xs a) (lines_done conn ys b) one other shown;
      asked = lines_numbers conn xs a ∙ s.asked ∙ sym (lines_numbers conn ys b);
      asks = lines_raised conn xs a ∙ s.asks ∙ sym (lines_raised conn ys b);
      talks = λ n. ap (λ (l : List calls.Call). shown_talk l) (lines_talk conn xs a n) ∙ s.talks n ∙ sym (ap (λ (l : List calls.Call). shown_talk l) (lines_talk conn ys b n));
      settled = lines_keep_told conn xs a ∙ s.settled ∙ sym (lines_keep_told conn ys b);
    }
  where
    shown_talk : List calls.Call → Shown
    shown_talk l = shown (standing l)

-- ---- what is known of an event by its redaction

-- the events that stay as they are
abbrev stays : Event → Bool
stays (Hang at) = true
stays (Take at) = true
stays TakeAsk = true
stays Stop = true
stays (NoAnswer call) = true
stays (NoRoom call) = true
stays (Request at frame word) = false
stays (Answer call bytes) = false

-- a request that stays as it is, but for its word
record Plain (conn : ℕ) (frame : List ℕ) (before now : List Deed) : Type 0 where
  pub word : List ℕ
  pub message : TMsg
  pub is : request_of frame ≡ Some message
  pub plain : is_plain (entered conn before) conn message.body ≡ true
  pub goes : Goes conn before (after_granted (entered conn before) (call_of conn frame word) (granted_body (entered conn before) (call_of conn frame word) message.body)) now

record Written (conn : ℕ) (shown_lines : List ShownLine) (before now : List Deed) : Type 0 where
  pub lines : List CtlLine
  pub texts : map shown_line lines ≡ shown_lines
  pub valid : list_all is_tupled lines ≡ true
  pub opened : all_open (lines_done conn lines (entered conn before)) ≡ true
  pub goes : Goes conn before (lines_done conn lines (entered conn before)) now

record Stores (conn fid : ℕ) (content : Option ShownRequest) (before now : List Deed) : Type 0 where
  pub request : Result RpcRequest RpcFault
  pub shows : shown_content request ≡ content
  pub rests : WritesOn (entered conn before) (conv_of (entered conn before) conn fid)
  pub goes : Goes conn before (stored (conv_of (entered conn before) conn fid) request (entered conn before)) now

record ReadsRpc (conn tag fid : ℕ) (result : Option ShownResult) (before now : List Deed) : Type 0 where
  pub word : List ℕ
  pub count : ℕ
  pub file : is_rpc (node_of (fid_of (entered conn before) conn fid)) ≡ true
  pub came : result_in (entered conn before) (conv_of (entered conn before) conn fid) word ≡ result
  pub going : ReadsOn (entered conn before) (conv_of (entered conn before) conn fid)
  pub goes : Goes conn before (reading_talk (with_word conn tag word) fid (effective count (msize_of (entered conn before) conn)) (conv_of (entered conn before) conn fid) (entered conn before)) now

record Hears (call : ℕ) (result : Option ShownResult) (before now : List Deed) : Type 0 where
  pub bytes : List ℕ
  pub came : answer_result before (asker before call) bytes ≡ result
  pub is : now ≡ does before (Answer call bytes)

abbrev Same : ℕ → List Deed → List Deed → Type 0
Same conn before now = Goes conn before (entered conn before) now

abbrev Did : Redacted → List Deed → List Deed → Type 0
Did (Stays event) before now = (stays event ≡ true) × (now ≡ does before event)
Did (Unread conn text) before now = Same conn before now
Did (Came conn frame) before now = Plain conn frame before now
Did (CtlWritten conn tag fid offset lines refused) before now = Written conn lines before now
Did (RpcWritten conn tag fid offset (Err text)) before now = Same conn before now
Did (RpcWritten conn tag fid offset (Ok content)) before now = Stores conn fid content before now
Did (RpcRead conn tag fid offset (Err text)) before now = Same conn before now
Did (RpcRead conn tag fid offset (Ok result)) before now = ReadsRpc conn tag fid result before now
Did (ServerAnswered call result) before now = Hears call result before now

-- ---- two events of the same redaction

-- who asked the question of a number
abbrev asker_in : ℕ → List (ℕ × ℕ) → Option ℕ
asker_in call ns = option_map (λ n. n.1) (find (λ n. eqb n.0 call) ns)

asker_step : (q : Question) (rest : Option Question) (other : Option (ℕ × ℕ)) (x : Bool) → option_map (λ v. v.conv) rest ≡ option_map (λ n. n.1) other → option_map (λ v. v.conv) (cond x (Some q) rest) ≡ option_map (λ n. n.1) (cond x (Some (numbered q)) other)
asker_step q rest other true e = refl
asker_step q rest other false e = e

asker_found : (call : ℕ) (qs : List Question) → option_map (λ v. v.conv) (find (λ q. eqb q.call call) qs) ≡ asker_in call (map numbered qs)
asker_found call [] = refl
asker_found call (q ∷ qs) = asker_step q (find (λ v. eqb v.call call) qs) (find (λ n. eqb n.0 call) (map numbered qs)) (eqb q.call call) (asker_found call qs)

asker_alike : (call : ℕ) (a b : List Deed) → Along a b → asker a call ≡ asker b call
asker_alike call a b s = asker_found call (questions a) ∙ ap (asker_in call) s.asked ∙ sym (asker_found call (questions b))

-- who asked waits for the server
serving_up : (ph : Phase) → is_on_server ph ≡ true → is_resting ph ≡ false
serving_up OnServer e = refl
serving_up Resting e = absurd cc
serving_up (Waiting request) e = absurd cc
serving_up Seeking e = absurd cc
serving_up (OnConfirm serial) e = absurd cc
serving_up OnNeedkey e = absurd cc
serving_up (Kept answer) e = absurd cc

asker_goes : (done : List Deed) (call conv : ℕ) → IsKnown done → asker done call ≡ Some conv → GoesOn done conv
asker_goes done call conv known e =
    serving_up (standing_of done conv).phase (and_parts (stands done conv) (asks_server done conv) (asker_is_asked done call conv e known.asked)).1

silent_alike : (call : ℕ) (a b : List Deed) → Beside a b → Along (does a (NoAnswer call)) (does b (NoAnswer call))
silent_alike call a b s =
    let who = asker_alike call a b s.along in
    swept_alike (resumed (asker a call) calls.Unheard a) (resumed (asker b call) calls.Unheard b)
    (subst (λ (o : Option ℕ). Along (resumed (asker a call) calls.Unheard a) (resumed o calls.Unheard b)) who
    (along_server (asker a call) calls.Unheard calls.Unheard a b s.along s.one_serves s.other_serves
    (λ conv e. record { met = along_unheard conv a b s.along; first = met_up conv calls.Unheard a unheard_at (asker_goes a call conv s.one_known e); second = met_up conv calls.Unheard b unheard_at (asker_goes b call conv s.other_known (sym who ∙ e)) })))

roomless_alike : (call : ℕ) (a b : List Deed) → Beside a b → Along (does a (NoRoom call)) (does b (NoRoom call))
roomless_alike call a b s =
    let who = asker_alike call a b s.along in
    swept_alike (resumed (asker a call) calls.Roomless a) (resumed (asker b call) calls.Roomless b)
    (subst (λ (o : Option ℕ). Along (resumed (asker a call) calls.Roomless a) (resumed o calls.Roomless b)) who
    (along_server (asker a call) calls.Roomless calls.Roomless a b s.along s.one_serves s.other_serves
    (λ conv e. record { met = along_roomless conv a b s.along; first = met_up conv calls.Roomless a roomless_at (asker_goes a call conv s.one_known e); second = met_up conv calls.Roomless b roomless_at (asker_goes b call conv s.other_known (sym who ∙ e)) })))

one_result : (x y : ShownResult) → Some x ≡ Some y → x ≡ y
one_result x y e = cc

-- an answer that came to the same
answer_alike : (call : ℕ) (one other : List ℕ) (a b : List Deed) → Beside a b → answer_result a (asker a call) one ≡ answer_result b (asker b call) other → Along (does a (Answer call one)) (does b (Answer call other))
answer_alike call one other a b s came =
    let who = asker_alike call a b s.along in
    let same_came = came ∙ ap (λ (o : Option ℕ). answer_result b o other) (sym who) in
    swept_alike (resumed (asker a call) (calls.Heard one) a) (resumed (asker b call) (calls.Heard other) b)
    (subst (λ (o : Option ℕ). Along (resumed (asker a call) (calls.Heard one) a) (resumed o (calls.Heard other) b)) who
    (along_server (asker a call) (calls.Heard one) (calls.Heard other) a b s.along s.one_serves s.other_serves
    (λ conv e. record {
      met = along_heard conv one other a b s.along
          (one_result (came_to (standing (calls.Heard one ∷ talk a conv))) (came_to (standing (calls.Heard other ∷ talk b conv))) (sym (ap (λ (o : Option ℕ). answer_result a o one) e) ∙ same_came ∙ ap (λ (o : Option ℕ). answer_result b o other) e));
      first = met_up conv (calls.Heard one) a (heard_at one) (asker_goes a call conv s.one_known e);
      second = met_up conv (calls.Heard other) b (heard_at other) (asker_goes b call conv s.other_known (sym who ∙ e));
    })))

stay_alike : (event : Event) (a b : List Deed) → Beside a b → stays event ≡ true → Along (does a event) (does b event)
stay_alike (Hang at) a b s is =
    along_choice (was_opened a at && not (was_hung a at)) (was_opened b at && not (was_hung b at)) _ _ a b
    (ap (λ (x : Bool). x && not (was_hung a at)) (alike (λ done. was_opened done at) (λ done. opened_sized done at) a b s.along.public) ∙ ap (λ (x : Bool). was_opened b at && not x) (alike (λ done. was_hung done at) (λ done. hung_sized done at) a b s.along.public))
    (λ here. swept_alike (given_up_by (OfConnection at Hung) a) (given_up_by (OfConnection at Hung) b) (gone_alike (OfConnection at Hung) a b s (hung at a s.one_known) (hung at b s.other_known) (along_connection at Hung)))
    (λ here. s.along)
stay_alike (Take at) a b s is =
    along_choice (was_hung a at) (was_hung b at) a b _ _ (alike (λ done. was_hung done at) (λ done. hung_sized done at) a b s.along.public) (λ here. s.along)
    (λ here. taking_one at (untaken a at) (entered at a) (taking at (untaken b at) (entered at b)) (taking_other at (untaken b at) (entered at a) (entered at b) (entered_alike at a b s.along)))
stay_alike TakeAsk a b s is = handing_one (due a) a (handing (due b) b) (handing_other (due b) a b s.along)
stay_alike Stop a b s is = along_halted a b s.along
stay_alike (NoAnswer call) a b s is = silent_alike call a b s
stay_alike (NoRoom call) a b s is = roomless_alike call a b s
stay_alike (Request at frame word) a b s is = absurd cc
stay_alike (Answer number bytes) a b s is = absurd cc

one_message : (one other : TMsg) (o : Option TMsg) → o ≡ Some one → o ≡ Some other → one ≡ other
one_message one other o e f = cc

plain_alike : (conn : ℕ) (frame : List ℕ) (a b now then_too : List Deed) → Beside a b → Plain conn frame a now → Plain conn frame b then_too → Along now then_too
plain_alike conn frame a b now then_too s p q =
    let x = entered conn a in
    let y = entered conn b in
    let m : p.message ≡ q.message = one_message p.message q.message (request_of frame) p.is q.is in
    goes_alike conn a b (after_granted x (call_of conn frame p.word) (granted_body x (call_of conn frame p.word) p.message.body)) (after_granted y (call_of conn frame q.word) (granted_body y (call_of conn frame q.word) q.message.body)) now then_too s.along
    (subst (λ (v : TMsg). Along (after_granted x (call_of conn frame p.word) (granted_body x (call_of conn frame p.word) v.body)) (after_granted y (call_of conn frame q.word) (granted_body y (call_of conn frame q.word) q.message.body))) (sym m)
    (subst (λ (d : List Deed). Along (after_granted x (call_of conn frame p.word) (granted_body x (call_of conn frame p.word) q.message.body)) d) (framed_worded y conn (call_of conn frame p.word).tag p.word q.word q.message.body q.plain)
    (framed_alike x y (entered_beside conn a b s) (call_of conn frame p.word) q.message.body q.plain))) p.goes q.goes

same_alike : (conn : ℕ) (a b now then_too : List Deed) → Beside a b → Same conn a now → Same conn b then_too → Along now then_too
same_alike conn a b now then_too s p q = goes_alike conn a b (entered conn a) (entered conn b) now then_too s.along (entered_alike conn a b s.along) p q

written_alike : (conn : ℕ) (shown_lines : List ShownLine) (a b now then_too : List Deed) → Beside a b → Written conn shown_lines a now → Written conn shown_lines b then_too → Along now then_too
written_alike conn shown_lines a b now then_too s p q =
    goes_alike conn a b (lines_done conn p.lines (entered conn a)) (lines_done conn q.lines (entered conn b)) now then_too s.along
    (lines_alike conn p.lines q.lines (entered conn a) (entered conn b) (entered_alike conn a b s.along) (lines_tell p.lines q.lines p.valid q.valid (p.texts ∙ sym q.texts)) p.opened q.opened) p.goes q.goes

convs_alike : (conn fid : ℕ) (a b : List Deed) → Along a b → conv_of a conn fid ≡ conv_of b conn fid
convs_alike conn fid a b s = ap (λ (ss : List Speaker). option_map (λ s. s.conv) (find (λ s. eqb s.conn conn && eqb s.fid fid) ss)) (alike speakers speakers_sized a b s.public)

stored_alike : (conn fid : ℕ) (content : Option ShownRequest) (a b now then_too : List Deed) → Beside a b → Stores conn fid content a now → Stores conn fid content b then_too → Along now then_too
stored_alike conn fid content a b now then_too s p q =
    let x = entered conn a in
    let y = entered conn b in
    let t = entered_alike conn a b s.along in
    let who = convs_alike conn fid x y t in
    goes_alike conn a b (stored (conv_of x conn fid) p.request x) (stored (conv_of y conn fid) q.request y) now then_too s.along
    (subst (λ (o : Option ℕ). Along (stored (conv_of x conn fid) p.request x) (stored o q.request y)) who
    (along_stored (conv_of x conn fid) p.request q.request x y t p.rests (subst (λ (o : Option ℕ). WritesOn y o) (sym who) q.rests) (p.shows ∙ sym q.shows))) p.goes q.goes

read_alike : (conn tag fid : ℕ) (result : Option ShownResult) (a b now then_too : List Deed) → Beside a b → ReadsRpc conn tag fid result a now → ReadsRpc conn tag fid result b then_too → Along now then_too
read_alike conn tag fid result a b now then_too s p q =
    let x = entered conn a in
    let y = entered conn b in
    let t = entered_beside conn a b s in
    let who = convs_alike conn fid x y t.along in
    let o = conv_of x conn fid in
    let most = effective p.count (msize_of x conn) in
    let least = effective q.count (msize_of y conn) in
    let first = reading_talk (with_word conn tag p.word) fid most o x in
    goes_alike conn a b first (reading_talk (with_word conn tag q.word) fid least (conv_of y conn fid) y) now then_too s.along
    (subst (λ (c : Option ℕ). Along first (reading_talk (with_word conn tag q.word) fid least c y)) who
    (along_talk_read conn tag fid most least p.word q.word o x y t.along t.one_serves t.other_serves p.going (subst (λ (c : Option ℕ). ReadsOn y c) (sym who) q.going)
    (p.came ∙ sym q.came ∙ ap (λ (c : Option ℕ). result_in y c q.word) (sym who)) q.file)) p.goes q.goes

heard_alike : (call : ℕ) (result : Option ShownResult) (a b now then_too : List Deed) → Beside a b → Hears call result a now → Hears call result b then_too → Along now then_too
heard_alike call result a b now then_too s p q =
    subst (λ (d : List Deed). Along d then_too) (sym p.is) (subst (λ (d : List Deed). Along (does a (Answer call p.bytes)) d) (sym q.is) (answer_alike call p.bytes q.bytes a b s (p.came ∙ sym q.came)))

did_alike : (r : Redacted) (a b now then_too : List Deed) → Beside a b → Did r a now → Did r b then_too → Along now then_too
did_alike (Stays event) a b now then_too s p q = subst (λ (d : List Deed). Along d then_too) (sym p.1) (subst (λ (d : List Deed). Along (does a event) d) (sym q.1) (stay_alike event a b s p.0))
did_alike (Unread conn text) a b now then_too s p q = same_alike conn a b now then_too s p q
did_alike (Came conn frame) a b now then_too s p q = plain_alike conn frame a b now then_too s p q
did_alike (CtlWritten conn tag fid offset lines refused) a b now then_too s p q = written_alike conn lines a b now then_too s p q
did_alike (RpcWritten conn tag fid offset (Err text)) a b now then_too s p q = same_alike conn a b now then_too s p q
did_alike (RpcWritten conn tag fid offset (Ok content)) a b now then_too s p q = stored_alike conn fid content a b now then_too s p q
did_alike (RpcRead conn tag fid offset (Err text)) a b now then_too s p q = same_alike conn a b now then_too s p q
did_alike (RpcRead conn tag fid offset (Ok result)) a b now then_too s p q = read_alike conn tag fid result a b now then_too s p q
did_alike (ServerAnswered call result) a b now then_too s p q = heard_alike call result a b now then_too s p q

-- ---- each event by its own redaction

write_after : (done : List Deed) (call : Call) (fid offset : ℕ) (content : List ℕ) → after done call (t.Write fid offset content) ≡ writing done call fid content (node_of (fid_of done call.conn fid))
unfolding after
write_after done call fid offset content = refl

read_after : (done : List Deed) (call : Call) (fid offset count : ℕ) → after done call (t.Read fid offset count) ≡ reading_file done call fid offset (effective count (msize_of done call.conn)) (node_of (fid_of done call.conn fid))
unfolding after
read_after done call fid offset count = refl

-- of what was granted: a write of rpc finds a conversation that rests, and a read one that doesn't
write_rests : (done : List Deed) (call : Call) (fid offset : ℕ) (content : List ℕ) → refusal done call (t.Write fid offset content) ≡ None → is_rpc (node_of (fid_of done call.conn fid)) ≡ true → is_resting (phase_of done call.conn fid) ≡ true
unfolding refusal
write_rests done call fid offset content e is =
    let o = fid_of done call.conn fid in
    let one = choice_none (not (is_open o)) _ _ (or_none _ _ e).1 in
    let two = choice_none (not (lets_write (mode_of o))) _ _ one.1 in
    let three = choice_none (is_rpc (node_of o) && not (is_resting (phase_of done call.conn fid))) _ _ two.1 in
    not_false (is_resting (phase_of done call.conn fid)) (where_true (is_rpc (node_of o)) _ is three.0)

read_goes : (done : List Deed) (call : Call) (fid offset count : ℕ) → refusal done call (t.Read fid offset count) ≡ None → is_rpc (node_of (fid_of done call.conn fid)) ≡ true → is_resting (phase_of done call.conn fid) ≡ false
unfolding refusal
read_goes done call fid offset count e is =
    let o = fid_of done call.conn fid in
    let node = node_of o in
    let one = choice_none (not (is_open o)) _ _ (or_none _ _ e).1 in
    let two = choice_none (not (lets_read (mode_of o))) _ _ one.1 in
    let three = choice_none (is_elsewhere node (next_of done call.conn fid) offset) _ _ two.1 in
    let four = choice_none (is_rpc node && waits_for done call.conn fid) _ _ three.1 in
    let five = choice_none (is_rpc node && is_resting (phase_of done call.conn fid)) _ _ four.1 in
    where_true (is_rpc node) (is_resting (phase_of done call.conn fid)) is five.0

phase_there : (done : List Deed) (conn fid conv : ℕ) (x : Bool) → is_resting (phase_of done conn fid) ≡ x → conv_of done conn fid ≡ Some conv → is_resting (standing_of done conv).phase ≡ x
phase_there done conn fid conv x e f = sym (ap (λ (o : Option ℕ). is_resting (phase_in done o)) f) ∙ e

-- a write of rpc, and of ctl, that was granted or not
rpc_did : (at : ℕ) (H : History) (frame word : List ℕ) (fid offset : ℕ) (content : List ℕ) → is_rpc (node_of (fid_of (entered at (deeds H)) at fid)) ≡ true → (g : Result TBody (List ℕ))
    → granted (entered at (deeds H)) (call_of at frame word) frame ≡ g → ((body : TBody) → g ≡ Ok body → body ≡ t.Write fid offset content)
    → Did (rpc_redaction (call_of at frame word) fid offset content g) (deeds H) (does (deeds H) (Request at frame word))
rpc_did at H frame word fid offset content node (Err text) e is =
    let done = entered at (deeds H) in
    let call = call_of at frame word in
    request_goes (deeds H) at frame word done (framed done call frame ∙ ap (after_granted done call) e)
rpc_did at H frame word fid offset content node (Ok body) e is =
    let done = entered at (deeds H) in
    let call = call_of at frame word in
    let none = (subst (λ (b : TBody). Passed done call b) (is body refl) (none_refuses done call frame body e)).none in
    record {
      request = rpc.request_of content;
      shows = refl;
      rests = λ conv f. phase_there done at fid conv true (write_rests done call fid offset content none node) f;
      goes = request_goes (deeds H) at frame word (stored (conv_of done at fid) (rpc.request_of content) done)
          (framed done call frame ∙ ap (after_granted done call) e ∙ ap (after done call) (is body refl) ∙ write_after done call fid offset content
          ∙ ap (λ (b : Bool). cond b (stored (conv_of done at fid) (rpc.request_of content) done) (cond (is_some (kind_at (node_of (fid_of done at fid)))) (replying (kind_at (node_of (fid_of done at fid))) (prompt.reply_of content) done) (lines_done at (carried_out (keys_of done) (lines_of content)) done))) node);
    }

ctl_did : (at : ℕ) (H : History) (frame word : List ℕ) (fid offset : ℕ) (content : List ℕ) → is_rpc (node_of (fid_of (entered at (deeds H)) at fid)) ≡ false → is_some (kind_at (node_of (fid_of (entered at (deeds H)) at fid))) ≡ false → (g : Result TBody (List ℕ))
    → granted (entered at (deeds H)) (call_of at frame word) frame ≡ g → ((body : TBody) → g ≡ Ok body → body ≡ t.Write fid offset content)
    → Did (ctl_redaction (entered at (deeds H)) (call_of at frame word) fid offset content g) (deeds H) (does (deeds H) (Request at frame word))
ctl_did at H frame word fid offset content node kind (Err text) e is =
    let done = entered at (deeds H) in
    let call = call_of at frame word in
    record { lines = []; texts = refl; valid = refl; opened = entered_open at (deeds H) (deeds_open H); goes = request_goes (deeds H) at frame word done (framed done call frame ∙ ap (after_granted done call) e) }
ctl_did at H frame word fid offset content node kind (Ok body) e is =
    let done = entered at (deeds H) in
    let call = call_of at frame word in
    let lines = carried_out (keys_of done) (lines_of content) in
    record {
      lines = lines;
      texts = refl;
      valid = carried_tupled (keys_of done) (lines_of content);
      opened = lines_open done at (lines_of content) (entered_open at (deeds H) (deeds_open H));
      goes = request_goes (deeds H) at frame word (lines_done at lines done)
          (framed done call frame ∙ ap (after_granted done call) e ∙ ap (after done call) (is body refl) ∙ write_after done call fid offset content
          ∙ ap (λ (b : Bool). cond b (stored (conv_of done at fid) (rpc.request_of content) done) (cond (is_some (kind_at (node_of (fid_of done at fid)))) (replying (kind_at (node_of (fid_of done at fid))) (prompt.reply_of content) done) (lines_done at lines done))) node
          ∙ ap (λ (b : Bool). cond b (replying (kind_at (node_of (fid_of done at fid))) (prompt.reply_of content) done) (lines_done at lines done)) kind);
    }

-- a read of rpc that was granted or not
abbrev not_rpc : List Deed → Call → ℕ → ℕ → ℕ → Node → List Deed
not_rpc done call fid offset most node = cond (is_line_file node) (reading_line call fid most node (line_for most (lines_in done node)) done) (reading done call.conn fid offset most node)

rpc_read_did : (at : ℕ) (H : History) (frame word : List ℕ) (fid offset count : ℕ) → is_rpc (node_of (fid_of (entered at (deeds H)) at fid)) ≡ true → (g : Result TBody (List ℕ))
    → granted (entered at (deeds H)) (call_of at frame word) frame ≡ g → ((body : TBody) → g ≡ Ok body → body ≡ t.Read fid offset count)
    → Did (rpc_read_redaction (entered at (deeds H)) (call_of at frame word) fid offset g) (deeds H) (does (deeds H) (Request at frame word))
rpc_read_did at H frame word fid offset count node (Err text) e is =
    let done = entered at (deeds H) in
    let call = call_of at frame word in
    request_goes (deeds H) at frame word done (framed done call frame ∙ ap (after_granted done call) e)
rpc_read_did at H frame word fid offset count node (Ok body) e is =
    let done = entered at (deeds H) in
    let call = call_of at frame word in
    let most = effective count (msize_of done at) in
    let none = (subst (λ (b : TBody). Passed done call b) (is body refl) (none_refuses done call frame body e)).none in
    record {
      word = word;
      count = count;
      came = refl;
      file = node;
      going = λ conv f. phase_there done at fid conv false (read_goes done call fid offset count none node) f;
      goes = request_goes (deeds H) at frame word (reading_talk call fid most (conv_of done at fid) done)
          (framed done call frame ∙ ap (after_granted done call) e ∙ ap (after done call) (is body refl) ∙ read_after done call fid offset count
          ∙ ap (λ (b : Bool). cond b (reading_talk call fid most (conv_of done at fid) done) (not_rpc done call fid offset most (node_of (fid_of done at fid)))) node);
    }

none_other : (x y : Bool) (o : Option (List ℕ)) (body other : TBody) → tested x y body o ≡ Ok other → other ≡ body
none_other true y o body other e = absurd cc
none_other false true o body other e = absurd cc
none_other false false (Some text) body other e = absurd cc
none_other false false None body other e = cc

only_it : (done : List Deed) (call : Call) (frame : List ℕ) (m : TMsg) → is_over (msize_of done call.conn) frame ≡ false → request_of frame ≡ Some m → (g : Result TBody (List ℕ)) → granted done call frame ≡ g → (body : TBody) → g ≡ Ok body → body ≡ m.body
only_it done call frame m over is g e body f =
    none_other (lacks_version done call m.body) (repeats_tag done call m.body) (refusal done call m.body) m.body body (sym (granted_message done call frame m over is) ∙ e ∙ f)

plain_did : (at : ℕ) (H : History) (frame word : List ℕ) (m : TMsg) → is_over (msize_of (entered at (deeds H)) at) frame ≡ false → request_of frame ≡ Some m → is_plain (entered at (deeds H)) at m.body ≡ true
    → Plain at frame (deeds H) (does (deeds H) (Request at frame word))
plain_did at H frame word m over is plain =
    let done = entered at (deeds H) in
    let call = call_of at frame word in
    record {
      word = word;
      message = m;
      is = is;
      plain = plain;
      goes = request_goes (deeds H) at frame word (after_granted done call (granted_body done call m.body)) (framed done call frame ∙ ap (after_granted done call) (granted_message done call frame m over is));
    }

write_did : (at : ℕ) (H : History) (frame word : List ℕ) (fid offset : ℕ) (content : List ℕ) → ((g : Result TBody (List ℕ)) → granted (entered at (deeds H)) (call_of at frame word) frame ≡ g → (body : TBody) → g ≡ Ok body → body ≡ t.Write fid offset content)
    → (x : Bool) → is_rpc (node_of (fid_of (entered at (deeds H)) at fid)) ≡ x → (y : Bool) → is_some (kind_at (node_of (fid_of (entered at (deeds H)) at fid))) ≡ y → (y ≡ true → Plain at frame (deeds H) (does (deeds H) (Request at frame word)))
    → Did (cond x (rpc_redaction (call_of at frame word) fid offset content (granted (entered at (deeds H)) (call_of at frame word) frame)) (cond y (Came at frame) (ctl_redaction (entered at (deeds H)) (call_of at frame word) fid offset content (granted (entered at (deeds H)) (call_of at frame word) frame))))
    (deeds H) (does (deeds H) (Request at frame word))
write_did at H frame word fid offset content is true e y f plain = rpc_did at H frame word fid offset content e (granted (entered at (deeds H)) (call_of at frame word) frame) refl (is (granted (entered at (deeds H)) (call_of at frame word) frame) refl)
write_did at H frame word fid offset content is false e true f plain = plain refl
write_did at H frame word fid offset content is false e false f plain = ctl_did at H frame word fid offset content e f (granted (entered at (deeds H)) (call_of at frame word) frame) refl (is (granted (entered at (deeds H)) (call_of at frame word) frame) refl)

read_did : (at : ℕ) (H : History) (frame word : List ℕ) (fid offset count : ℕ) → ((g : Result TBody (List ℕ)) → granted (entered at (deeds H)) (call_of at frame word) frame ≡ g → (body : TBody) → g ≡ Ok body → body ≡ t.Read fid offset count)
    → (x : Bool) → is_rpc (node_of (fid_of (entered at (deeds H)) at fid)) ≡ x → (x ≡ false → Plain at frame (deeds H) (does (deeds H) (Request at frame word)))
    → Did (cond x (rpc_read_redaction (entered at (deeds H)) (call_of at frame word) fid offset (granted (entered at (deeds H)) (call_of at frame word) frame)) (Came at frame)) (deeds H) (does (deeds H) (Request at frame word))
read_did at H frame word fid offset count is true e plain = rpc_read_did at H frame word fid offset count e (granted (entered at (deeds H)) (call_of at frame word) frame) refl (is (granted (entered at (deeds H)) (call_of at frame word) frame) refl)
read_did at H frame word fid offset count is false e plain = plain refl

body_did : (at : ℕ) (H : History) (frame word : List ℕ) (m : TMsg) (body : TBody) → m.body ≡ body → is_over (msize_of (entered at (deeds H)) at) frame ≡ false → request_of frame ≡ Some m
    → Did (body_redaction (entered at (deeds H)) (call_of at frame word) frame body) (deeds H) (does (deeds H) (Request at frame word))
body_did at H frame word m (t.Read fid offset count) e over is =
    let done = entered at (deeds H) in
    read_did at H frame word fid offset count (λ g f body h. only_it done (call_of at frame word) frame m over is g f body h ∙ e) (is_rpc (node_of (fid_of done at fid))) refl
    (λ (f : is_rpc (node_of (fid_of done at fid)) ≡ false). plain_did at H frame word m over is (ap (is_plain done at) e ∙ ap not f))
body_did at H frame word m (t.Write fid offset content) e over is =
    let done = entered at (deeds H) in
    write_did at H frame word fid offset content (λ g f body h. only_it done (call_of at frame word) frame m over is g f body h ∙ e) (is_rpc (node_of (fid_of done at fid))) refl (is_some (kind_at (node_of (fid_of done at fid)))) refl
    (λ (f : is_some (kind_at (node_of (fid_of done at fid))) ≡ true). plain_did at H frame word m over is (ap (is_plain done at) e ∙ f))
body_did at H frame word m (t.Version msize version) e over is = plain_did at H frame word m over is (ap (is_plain (entered at (deeds H)) at) e)
body_did at H frame word m (t.Auth afid uname aname) e over is = plain_did at H frame word m over is (ap (is_plain (entered at (deeds H)) at) e)
body_did at H frame word m (t.Attach fid afid uname aname) e over is = plain_did at H frame word m over is (ap (is_plain (entered at (deeds H)) at) e)
body_did at H frame word m (t.Flush oldtag) e over is = plain_did at H frame word m over is (ap (is_plain (entered at (deeds H)) at) e)
body_did at H frame word m (t.Walk fid newfid wname) e over is = plain_did at H frame word m over is (ap (is_plain (entered at (deeds H)) at) e)
body_did at H frame word m (t.Open fid mode) e over is = plain_did at H frame word m over is (ap (is_plain (entered at (deeds H)) at) e)
body_did at H frame word m (t.Create fid name perm mode) e over is = plain_did at H frame word m over is (ap (is_plain (entered at (deeds H)) at) e)
body_did at H frame word m (t.Clunk fid) e over is = plain_did at H frame word m over is (ap (is_plain (entered at (deeds H)) at) e)
body_did at H frame word m (t.Remove fid) e over is = plain_did at H frame word m over is (ap (is_plain (entered at (deeds H)) at) e)
body_did at H frame word m (t.Stat fid) e over is = plain_did at H frame word m over is (ap (is_plain (entered at (deeds H)) at) e)
body_did at H frame word m (t.Wstat fid stat) e over is = plain_did at H frame word m over is (ap (is_plain (entered at (deeds H)) at) e)

message_did : (at : ℕ) (H : History) (frame word : List ℕ) (o : Option TMsg) → is_over (msize_of (entered at (deeds H)) at) frame ≡ false → request_of frame ≡ o
    → Did (message_redaction (entered at (deeds H)) (call_of at frame word) frame o) (deeds H) (does (deeds H) (Request at frame word))
message_did at H frame word None over is = request_goes (deeds H) at frame word (entered at (deeds H)) (bad_frame (entered at (deeds H)) (call_of at frame word) frame over is)
message_did at H frame word (Some m) over is = body_did at H frame word m m.body refl over is

frame_did : (at : ℕ) (H : History) (frame word : List ℕ) (x : Bool) → is_over (msize_of (entered at (deeds H)) at) frame ≡ x
    → Did (cond x (Unread at (codes "message over msize")) (message_redaction (entered at (deeds H)) (call_of at frame word) frame (request_of frame))) (deeds H) (does (deeds H) (Request at frame word))
frame_did at H frame word true over = request_goes (deeds H) at frame word (entered at (deeds H)) (over_frame (entered at (deeds H)) (call_of at frame word) frame over)
frame_did at H frame word false over = message_did at H frame word (request_of frame) over refl

did : (H : History) (e : Event) → Did (redaction (deeds H) e) (deeds H) (does (deeds H) e)
did H (Request at frame word) = frame_did at H frame word (is_over (msize_of (entered at (deeds H)) at) frame) refl
did H (Answer number bytes) = record { bytes = bytes; came = refl; is = refl }
did H (NoAnswer number) = (refl, refl)
did H (NoRoom number) = (refl, refl)
did H (Hang at) = (refl, refl)
did H (Take at) = (refl, refl)
did H TakeAsk = (refl, refl)
did H Stop = (refl, refl)

-- ---- histories

as_long : (H : History) → length (redact H) ≡ length H
as_long [] = refl
as_long (e ∷ H) = omega (arith, as_long H)

beside : (H K : History) → Along (deeds H) (deeds K) → Beside (deeds H) (deeds K)
beside H K s = record { along = s; one_serves = serves H; other_serves = serves K; one_open = deeds_open H; other_open = deeds_open K; one_known = all_are_known H; other_known = all_are_known K }

event_alike : (H K : History) (e f : Event) → length H ≡ length K → Along (deeds H) (deeds K) → Along (does (deeds H) e) (does (deeds K) f) → Along (deeds (e ∷ H)) (deeds (f ∷ K))
event_alike H K e f long s now =
    along_choice (is_halted (deeds H)) (is_halted (deeds K)) (deeds H) (deeds K) _ _ (alike is_halted halted_sized (deeds H) (deeds K) s.public) (λ is. s)
    (λ is. along_choice (ltb (length H + 1) most_events) (ltb (length K + 1) most_events) (does (deeds H) e) (does (deeds K) f) _ _ (ap (λ (n : ℕ). ltb (n + 1) most_events) long) (λ more. now) (λ last. along_halted (does (deeds H) e) (does (deeds K) f) now))

first_alike : (x y : Redacted) (xs ys : List Redacted) → x ∷ xs ≡ y ∷ ys → (x ≡ y) × (xs ≡ ys)
first_alike x y xs ys e = let one : x ≡ y = cc in let more : xs ≡ ys = cc in (one, more)

redacted_along : (H K : History) → redact H ≡ redact K → Along (deeds H) (deeds K)
redacted_along [] [] e = record { public = refl; keys = refl; asked = refl; asks = refl; talks = λ n. refl; settled = refl }
redacted_along [] (f ∷ K) e = absurd cc
redacted_along (d ∷ H) [] e = absurd cc
redacted_along (d ∷ H) (f ∷ K) e =
    let parts = first_alike (redaction (deeds H) d) (redaction (deeds K) f) (redact H) (redact K) e in
    let before = redacted_along H K parts.1 in
    event_alike H K d f (sym (as_long H) ∙ ap length parts.1 ∙ as_long K) before
    (did_alike (redaction (deeds K) f) (deeds H) (deeds K) (does (deeds H) d) (does (deeds K) f) (beside H K before) (subst (λ (r : Redacted). Did r (deeds H) (does (deeds H) d)) parts.0 (did H d)) (did K f))

pub redacted_alike : (H K : History) → redact H ≡ redact K → in_public (unsized (deeds H)) ≡ in_public (unsized (deeds K))
redacted_alike H K e = (redacted_along H K e).public

-- what reads of files of lines were told that waited
pub redacted_lines : (H K : History) → redact H ≡ redact K → lines_told (deeds H) ≡ lines_told (deeds K)
redacted_lines H K e = (redacted_along H K e).settled

-- reads after them
pub redacted_reads : (H K : History) → redact H ≡ redact K → (call : Call) (frame : List ℕ) (m : TMsg) (fid offset count : ℕ) → request_of frame ≡ Some m → m.body ≡ t.Read fid offset count
    → is_rpc (node_of (fid_of (deeds K) call.conn fid)) ≡ false → body_to (deeds H) call frame ≡ body_to (deeds K) call frame
redacted_reads H K e call frame m fid offset count is read other =
    body_to_public (deeds H) (deeds K) (sized_sight (deeds H) (deeds K) (deeds_open H) (deeds_open K) (redacted_alike H K e)) call frame m fid offset count is read other

all_bare : (ws : List Wait) → list_all is_unsettled (map bare ws) ≡ list_all is_unsettled ws
all_bare [] = refl
all_bare (w ∷ ws) = ap (λ (x : Bool). is_unsettled w && x) (all_bare ws)

unsettled_there : (H : History) (conn : ℕ) → list_all is_unsettled (waits (unsized (deeds H)) conn) ≡ true
unsettled_there H conn = sym (all_bare (waits (unsized (deeds H)) conn)) ∙ ap (list_all is_unsettled) (waits_unsized (deeds H) conn) ∙ all_bare (waits (deeds H) conn) ∙ (reads_wait H conn).unsettled

pub redacted_waits : (H K : History) → redact H ≡ redact K → (conn : ℕ) → waits (unsized (deeds H)) conn ≡ waits (unsized (deeds K)) conn
redacted_waits H K e conn =
    waits_same (waits (unsized (deeds H)) conn) (waits (unsized (deeds K)) conn) (unsettled_there H conn) (unsettled_there K conn)
    (sym (waits_public (unsized (deeds H)) conn) ∙ ap (λ (d : List Deed). saw (waits d conn)) (redacted_alike H K e) ∙ waits_public (unsized (deeds K)) conn)
