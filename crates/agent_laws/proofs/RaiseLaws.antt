-- A request raises one question at most, and no other event raises any.
use Rattle.std.proofs.Common.{◌≡◌, ◌≤◌, ℕ, ◌+◌, List, [], ◌∷◌, Bool, true, false, cond, eqb, ltb, ◌&&◌, not, length, Option, Some, None, Result, Ok, Err, refl, sym, ap, subst, ◌∙◌, arith}
use Rattle.std.proofs.lemmas.Bool.{and_parts, eq-eqb}
use Rattle.nine.specs.declared.message.TBody.{TBody}
use Rattle.nine.specs.declared.message.TBody.TheVariants as t
use Rattle.nine.specs.declared.message.RBody.{RBody}
use Rattle.nine.specs.declared.message.RMsg.{RMsg}
use Rattle.file_tree.specs.declared.tree.Node.{Node}
use Rattle.file_tree.specs.declared.tree.Node.TheVariants.{Root, Factotum, Rpc, Ctl, Confirm, Needkey, Proto, Log}
use Rattle.file_tree.specs.Tree.{lead_to}
use Rattle.file_tree.specs.Calls.{node_of}
use Rattle.key_lists.specs.CtlLines.{CtlLine, carried_out, lines_of}
use Rattle.roles.specs.declared.need.Need.{Need}
use Rattle.roles.specs.declared.need.Need.TheVariants.{Nothing}
use Rattle.roles.specs.Answers.{IsExchange}
use Rattle.roles.specs.Talks.{Call as Move, heard, unheard, roomless}
use Rattle.talks.specs.Requests.{RpcRequest}
use Rattle.talks.specs.Requests as rpc
use Rattle.talks.specs.declared.answer.RpcAnswer.{RpcAnswer}
use Rattle.talks.specs.declared.request.RpcFault.{RpcFault}
use Rattle.talks.specs.Protocols.{needs}
use Rattle.talks.proofs.Laws.{heard_needs, roomless_needs, unheard_needs}
use Rattle.talks.specs.Calls as calls
use Rattle.talks.specs.Standings.{Begun, Phase, Resting, Waiting, Seeking, OnConfirm, OnNeedkey, OnServer, Kept, Standing, made, need_in, phase_after, question_of, standing, then_stands, finds}
use Rattle.agent_history.specs.declared.event.Event.{Event}
use Rattle.agent_history.specs.declared.event.Event.TheVariants.{Request, Hang, Answer, NoAnswer, NoRoom, Take, TakeAsk, Stop}
use Rattle.agent_history.specs.Deeds.{Deed, OfFids, OfKeys, OfConnection, OfTalk, Swept, Halted, Listed, Entered, Hung, fid_of, is_halted, keys_of, msize_of, was_hung, was_opened, OfPrompts, OfLog, OfReplies, Raised, HandedOut, DropTaken, Versioned, Clunked, Answered, Awaited, Settled, Flushed, Taken}
use Rattle.agent_history.specs.Replies.{Wait, has_settled, swept, untaken}
use Rattle.agent_history.specs.Conversations.{Due, DropDue, NoneDue, QuestionDue, Speaker, asker, conv_of, deliver_to, due, fits, give_to, met, raised, raising, reader_of, resumed, seeking, seeking_all, sought_once, speaker_of, stands, standing_of, talk, then_raised, then_sought, then_took, asking, given_up_by, sought, then_logged}
use Rattle.agent_history.specs.Requests.{Call, after, after_frame, after_granted, answered, body_to, call_of, carried, carrying_out, effective, granted, is_rpc, line_deed, lines_done, reading, reading_answer, reading_talk, replied, stored, walking, agreed, reading_line, replying, said_by}
use Rattle.agent_history.specs.Histories.{History, deeds, does, entered, handing, most_events, taking}
use Rattle.agent_laws.specs.Laws.{all_asked, asks_server, is_request}
use Rattle.agent_laws.proofs.AskLaws.{asker_is_asked}
use Rattle.agent_laws.proofs.GrowLaws.{all_are_asked, KeepsAny, given_up_any, logged_any, served_any}
use Rattle.agent_laws.proofs.PutLaws.{IsAsked, asked_there, on_server, waits_with_question}
use Rattle.agent_laws.proofs.KindLaws.{is_handed}
use Rattle.agent_history.specs.SideFiles.{is_line_file, kind_at, line_read, lines_in, prompts_of}
use Rattle.side_files.specs.Lines.{Found, Nothing as NoLine, TooLong, First, found}
use Rattle.side_files.specs.Questions.{asker_of}
use Rattle.side_files.specs.declared.line.PromptKind.{PromptKind}
use Rattle.side_files.specs.declared.reply.Reply.{Reply}
use Rattle.side_files.specs.Calls as side
use Rattle.side_files.specs.Replies as prompt
use Rattle.std.specs.Prelude.{is_some}

-- ---- what raises none

either_raised : (b : Bool) (one other : List Deed) (n : ℕ) → raised one ≡ n → raised other ≡ n → raised (cond b one other) ≡ n
either_raised true one other n e f = e
either_raised false one other n e f = f

took_raised : (conv count : ℕ) (answer : RpcAnswer) (done : List Deed) → raised (then_took conv count answer done) ≡ raised done
took_raised conv count answer done = either_raised (fits count answer) (OfTalk conv calls.Took ∷ done) done (raised done) refl refl

give_raised : (conv conn : ℕ) (answer : RpcAnswer) (o : Option Wait) (done : List Deed) → raised (give_to conv conn answer o done) ≡ raised done
give_raised conv conn answer None done = refl
give_raised conv conn answer (Some wait) done = took_raised conv wait.count answer done

deliver_raised : (conv : ℕ) (ph : Phase) (o : Option Speaker) (done : List Deed) → raised (deliver_to conv ph o done) ≡ raised done
deliver_raised conv (Kept answer) (Some s) done = give_raised conv s.conn answer (reader_of done s) done
deliver_raised conv (Kept answer) None done = refl
deliver_raised conv Resting o done = refl
deliver_raised conv (Waiting request) o done = refl
deliver_raised conv Seeking o done = refl
deliver_raised conv (OnConfirm serial) o done = refl
deliver_raised conv OnNeedkey o done = refl
deliver_raised conv OnServer o done = refl

swept_raised : (done : List Deed) → raised (swept done) ≡ raised done
swept_raised done = by_cases (has_settled done)
  where
    by_cases : (b : Bool) → raised (cond b (Swept ∷ done) done) ≡ raised done
    by_cases true = refl
    by_cases false = refl

entered_raised : (at : ℕ) (done : List Deed) → raised (entered at done) ≡ raised done
entered_raised at done = either_raised (was_opened done at) done (OfConnection at Entered ∷ done) (raised done) refl refl

-- what is handed on raises none
same_raised : (n : ℕ) → KeepsAny is_handed (λ done. raised done ≡ n)
same_raised n done (OfTalk conv call) is p = p
same_raised n done (OfPrompts about doing) is p = p
same_raised n done (OfLog doing) is p = p
same_raised n done (Raised conv) is p = absurd cc
same_raised n done (OfReplies at (Settled tag body)) is p = p
same_raised n done (OfFids at deed) is p = absurd cc
same_raised n done (OfKeys at deed) is p = absurd cc
same_raised n done (OfConnection at deed) is p = absurd cc
same_raised n done (OfReplies at (Answered tag body)) is p = absurd cc
same_raised n done (OfReplies at (Awaited tag f count)) is p = absurd cc
same_raised n done (OfReplies at (Flushed tag)) is p = absurd cc
same_raised n done (OfReplies at Taken) is p = absurd cc
same_raised n done HandedOut is p = absurd cc
same_raised n done DropTaken is p = absurd cc
same_raised n done Swept is p = absurd cc
same_raised n done Halted is p = absurd cc

met_raised : (conv : ℕ) (call : calls.Call) (done : List Deed) → raised (met conv call done) ≡ raised (then_raised conv (then_sought conv (OfTalk conv call ∷ done)))
met_raised conv call done =
    let s = standing_of done conv in
    let two = then_raised conv (then_sought conv (OfTalk conv call ∷ done)) in
    let n = raised two in
    served_any (λ d. raised d ≡ n) (same_raised n) (then_logged conv s two) (logged_any (λ d. raised d ≡ n) (same_raised n) conv s two refl)

ends_raised : (deed : Deed) (done : List Deed) → ((d : List Deed) → raised d ≡ raised done → raised (deed ∷ d) ≡ raised done) → raised (given_up_by deed done) ≡ raised done
ends_raised deed done more = given_up_any (λ d. raised d ≡ raised done) (same_raised (raised done)) deed done more refl

-- ---- the authentication server is done with, and nothing is needed then

-- a conversation that neither seeks nor asks
abbrev Quiet : Phase → Type 0
Quiet Seeking = ⊥
Quiet OnServer = ⊥
Quiet ph = Unit {0}

quiet_seeking : (conv : ℕ) (ph : Phase) (done : List Deed) → Quiet ph → seeking conv ph done ≡ done
quiet_seeking conv Seeking done q = absurd q
quiet_seeking conv OnServer done q = absurd q
quiet_seeking conv Resting done q = refl
quiet_seeking conv (Waiting request) done q = refl
quiet_seeking conv (OnConfirm serial) done q = refl
quiet_seeking conv OnNeedkey done q = refl
quiet_seeking conv (Kept answer) done q = refl

quiet_raising : (conv : ℕ) (ph : Phase) (done : List Deed) → Quiet ph → raising conv ph done ≡ done
quiet_raising conv Seeking done q = absurd q
quiet_raising conv OnServer done q = absurd q
quiet_raising conv Resting done q = refl
quiet_raising conv (Waiting request) done q = refl
quiet_raising conv (OnConfirm serial) done q = refl
quiet_raising conv OnNeedkey done q = refl
quiet_raising conv (Kept answer) done q = refl

quiet_all : (starting : Bool) (conv : ℕ) (done : List Deed) → Quiet (standing_of done conv).phase → seeking_all starting conv done ≡ done
quiet_all true conv done q =
    let once = quiet_seeking conv (standing_of done conv).phase done q in
    ap (λ (d : List Deed). sought_once conv (sought_once conv d)) once ∙ ap (sought_once conv) once ∙ once
quiet_all false conv done q = quiet_seeking conv (standing_of done conv).phase done q

quiet_follows : (conv : ℕ) (done : List Deed) → Quiet (standing_of done conv).phase → then_raised conv (then_sought conv done) ≡ done
quiet_follows conv done q =
    ap (then_raised conv) (quiet_all (standing_of done conv).starting conv done q) ∙ quiet_raising conv (standing_of done conv).phase done q

-- where the role needs nothing the answer is there
nothing_quiet : (need : Need) (answer : RpcAnswer) → need ≡ Nothing → Quiet (phase_after need answer)
nothing_quiet need answer e = subst (λ (n : Need). Quiet (phase_after n answer)) (sym e) tt

is_exchange : (need : Need) → IsAsked need → IsExchange need
is_exchange need asked = subst IsExchange (sym asked.2) tt

made_quiet : (s : Standing) (move : Move) (begun : Option Begun) → ((b : Begun) → IsExchange (needs b.start b.moves) → needs b.start (move ∷ b.moves) ≡ Nothing) → IsExchange (need_in begun) → Quiet (made s move begun).phase
made_quiet s move None done e = absurd e
made_quiet s move (Some b) done e = nothing_quiet (needs b.start (move ∷ b.moves)) _ (done b e)

-- an answer, or that there is none, leaves a conversation quiet that waited for one
abbrev LeavesQuiet : calls.Call → Type 0
LeavesQuiet call = (s : Standing) → IsExchange (question_of s) → Quiet (then_stands s OnServer call).phase

heard_quiet : (bytes : List ℕ) → LeavesQuiet (calls.Heard bytes)
heard_quiet bytes s e = made_quiet s (heard bytes) s.begun (λ b. heard_needs b.start b.moves bytes) e

unheard_quiet : LeavesQuiet calls.Unheard
unheard_quiet s e = made_quiet s unheard s.begun (λ b. unheard_needs b.start b.moves) e

roomless_quiet : LeavesQuiet calls.Roomless
roomless_quiet s e = made_quiet s roomless s.begun (λ b. roomless_needs b.start b.moves) e

then_quiet : (done : List Deed) (conv : ℕ) (call : calls.Call) → LeavesQuiet call → (standing_of done conv).phase ≡ OnServer → Quiet (standing_of (OfTalk conv call ∷ done) conv).phase
then_quiet done conv call leaves e =
    let asked = asked_there (standing_of done conv).phase (question_of (standing_of done conv)) e (waits_with_question (talk done conv)) in
    let there : Quiet (standing (call ∷ talk done conv)).phase =
    subst (λ (ph : Phase). Quiet (then_stands (standing_of done conv) ph call).phase) (sym e) (leaves (standing_of done conv) (is_exchange (question_of (standing_of done conv)) asked)) in
    subst (λ (b : Bool). Quiet (standing (cond b (call ∷ talk done conv) (talk done conv))).phase) (sym (eq-eqb conv conv refl)) there

resumed_raised : (done : List Deed) (number : ℕ) (call : calls.Call) → LeavesQuiet call → all_asked done ≡ true → (o : Option ℕ) → asker done number ≡ o → raised (resumed o call done) ≡ raised done
resumed_raised done number call leaves known None e = refl
resumed_raised done number call leaves known (Some conv) e =
    let waits = on_server (standing_of done conv).phase (and_parts (stands done conv) (asks_server done conv) (asker_is_asked done number conv e known)).1 in
    let after = met conv call done in
    deliver_raised conv (standing_of after conv).phase (speaker_of after conv) after
    ∙ met_raised conv call done
    ∙ ap raised (quiet_follows conv (OfTalk conv call ∷ done) (then_quiet done conv call leaves waits))

-- ---- what raises one at most

-- one more at most
abbrev OneMore : List Deed → List Deed → Type 0
OneMore before after = raised after ≤ raised before + 1

same_one : (before after : List Deed) → raised after ≡ raised before → OneMore before after
same_one before after e = omega (arith, e)

raising_one : (conv : ℕ) (ph : Phase) (done : List Deed) → OneMore done (raising conv ph done)
raising_one conv OnServer done = omega arith
raising_one conv Seeking done = omega arith
raising_one conv Resting done = omega arith
raising_one conv (Waiting request) done = omega arith
raising_one conv (OnConfirm serial) done = omega arith
raising_one conv OnNeedkey done = omega arith
raising_one conv (Kept answer) done = omega arith

sought_raised : (conv : ℕ) (came : calls.Found) (done : List Deed) → raised (sought conv came done) ≡ raised done
sought_raised conv (calls.AsksConsent key) done = refl
sought_raised conv calls.AsksKey done = refl
sought_raised conv (calls.Chosen key) done = refl
sought_raised conv calls.Denied done = refl
sought_raised conv calls.NoneServes done = refl
sought_raised conv (calls.Offered list) done = refl
sought_raised conv (calls.Picked place) done = refl

seeking_raised : (conv : ℕ) (ph : Phase) (done : List Deed) → raised (seeking conv ph done) ≡ raised done
seeking_raised conv Seeking done = sought_raised conv (finds (standing_of done conv) (asking done) (keys_of done)) done
seeking_raised conv OnServer done = refl
seeking_raised conv Resting done = refl
seeking_raised conv (Waiting request) done = refl
seeking_raised conv (OnConfirm serial) done = refl
seeking_raised conv OnNeedkey done = refl
seeking_raised conv (Kept answer) done = refl

once_raised : (conv : ℕ) (done : List Deed) → raised (sought_once conv done) ≡ raised done
once_raised conv done = seeking_raised conv (standing_of done conv).phase done

all_raised : (starting : Bool) (conv : ℕ) (done : List Deed) → raised (seeking_all starting conv done) ≡ raised done
all_raised true conv done = once_raised conv (sought_once conv (sought_once conv done)) ∙ once_raised conv (sought_once conv done) ∙ once_raised conv done
all_raised false conv done = once_raised conv done

met_one : (conv : ℕ) (call : calls.Call) (done : List Deed) → OneMore done (met conv call done)
met_one conv call done =
    let one = OfTalk conv call ∷ done in
    let found = then_sought conv one in
    omega (arith, met_raised conv call done, raising_one conv (standing_of found conv).phase found, all_raised (standing_of one conv).starting conv one)

carrying_one : (conv : ℕ) (word : List ℕ) (ph : Phase) (done : List Deed) → OneMore done (carrying_out conv word ph done)
carrying_one conv word (Waiting request) done = met_one conv (calls.CarriedOut word) done
carrying_one conv word Resting done = omega arith
carrying_one conv word Seeking done = omega arith
carrying_one conv word (OnConfirm serial) done = omega arith
carrying_one conv word OnNeedkey done = omega arith
carrying_one conv word OnServer done = omega arith
carrying_one conv word (Kept answer) done = omega arith

answer_raised : (call : Call) (conv fid count : ℕ) (ph : Phase) (done : List Deed) → raised (reading_answer call conv fid count ph done) ≡ raised done
answer_raised call conv fid count (Kept answer) done = took_raised conv count answer done
answer_raised call conv fid count Resting done = refl
answer_raised call conv fid count (Waiting request) done = refl
answer_raised call conv fid count Seeking done = refl
answer_raised call conv fid count (OnConfirm serial) done = refl
answer_raised call conv fid count OnNeedkey done = refl
answer_raised call conv fid count OnServer done = refl

talk_one : (call : Call) (fid count : ℕ) (o : Option ℕ) (done : List Deed) → OneMore done (reading_talk call fid count o done)
talk_one call fid count None done = omega arith
talk_one call fid count (Some conv) done =
    let carried_ = carried conv call.word done in
    omega (arith, answer_raised call conv fid count (standing_of carried_ conv).phase carried_, carrying_one conv call.word (standing_of done conv).phase done)

reading_raised : (done : List Deed) (conn fid offset count : ℕ) (node : Node) → raised (reading done conn fid offset count node) ≡ raised done
reading_raised done conn fid offset count Ctl = either_raised (eqb offset 0) (OfFids conn (Listed fid) ∷ done) done (raised done) refl refl
reading_raised done conn fid offset count Root = refl
reading_raised done conn fid offset count Factotum = refl
reading_raised done conn fid offset count Rpc = refl
reading_raised done conn fid offset count Confirm = refl
reading_raised done conn fid offset count Needkey = refl
reading_raised done conn fid offset count Proto = refl
reading_raised done conn fid offset count Log = refl

either_one : (before : List Deed) (b : Bool) (one other : List Deed) → OneMore before one → OneMore before other → OneMore before (cond b one other)
either_one before true one other e f = e
either_one before false one other e f = f

stored_raised : (o : Option ℕ) (came : Result RpcRequest RpcFault) (done : List Deed) → raised (stored o came done) ≡ raised done
stored_raised None came done = refl
stored_raised (Some conv) (Ok request) done = refl
stored_raised (Some conv) (Err fault) done = refl

lines_raised : (conn : ℕ) (lines : List CtlLine) (done : List Deed) → raised (lines_done conn lines done) ≡ raised done
lines_raised conn [] done = refl
lines_raised conn (line ∷ more) done = lines_raised conn more (OfKeys conn (line_deed line) ∷ done)

walking_raised : (conn newfid : ℕ) (o : Option Node) (done : List Deed) → raised (walking conn newfid o done) ≡ raised done
walking_raised conn newfid None done = refl
walking_raised conn newfid (Some node) done = refl

line_raised : (node : Node) (done : List Deed) → raised (line_read node done) ≡ raised done
line_raised Confirm done = refl
line_raised Needkey done = refl
line_raised Log done = refl
line_raised Root done = refl
line_raised Factotum done = refl
line_raised Rpc done = refl
line_raised Ctl done = refl
line_raised Proto done = refl

lines_read_raised : (call : Call) (fid count : ℕ) (node : Node) (what : Found) (done : List Deed) → raised (reading_line call fid count node what done) ≡ raised done
lines_read_raised call fid count node NoLine done = refl
lines_read_raised call fid count node TooLong done = refl
lines_read_raised call fid count node (First line) done = line_raised node done

-- a reply to a question raises one at most
resumed_one : (o : Option ℕ) (call : calls.Call) (done : List Deed) → OneMore done (resumed o call done)
resumed_one None call done = omega arith
resumed_one (Some conv) call done =
    let after = met conv call done in
    omega (arith, deliver_raised conv (standing_of after conv).phase (speaker_of after conv) after, met_one conv call done)

replying_one : (kind : Option PromptKind) (reply : Option Reply) (done : List Deed) → OneMore done (replying kind reply done)
replying_one None reply done = omega arith
replying_one (Some kind) None done = omega arith
replying_one (Some kind) (Some reply) done = resumed_one (asker_of reply.tag (prompts_of done kind)) (said_by kind reply.agrees) (OfPrompts kind (side.Replied reply.tag) ∷ done)

body_one : (done : List Deed) (call : Call) (body : TBody) → OneMore done (after done call body)
unfolding after
body_one done call (t.Version msize version) = same_one done (given_up_by (OfFids call.conn (Versioned (agreed msize version))) done) (ends_raised (OfFids call.conn (Versioned (agreed msize version))) done (λ d e. e))
body_one done call (t.Auth afid uname aname) = omega arith
body_one done call (t.Attach fid afid uname aname) = omega arith
body_one done call (t.Flush oldtag) = omega arith
body_one done call (t.Walk fid newfid wname) =
    let o = lead_to (node_of (fid_of done call.conn fid)) wname in
    same_one done (walking call.conn newfid o done) (walking_raised call.conn newfid o done)
body_one done call (t.Open fid mode) = omega arith
body_one done call (t.Create fid name perm mode) = omega arith
body_one done call (t.Read fid offset count) =
    let node = node_of (fid_of done call.conn fid) in
    let most = effective count (msize_of done call.conn) in
    let what = found most (lines_in done node) in
    either_one done (is_rpc node) (reading_talk call fid most (conv_of done call.conn fid) done) _
    (talk_one call fid most (conv_of done call.conn fid) done)
    (either_one done (is_line_file node) (reading_line call fid most node what done) (reading done call.conn fid offset most node)
    (same_one done (reading_line call fid most node what done) (lines_read_raised call fid most node what done))
    (same_one done (reading done call.conn fid offset most node) (reading_raised done call.conn fid offset most node)))
body_one done call (t.Write fid offset content) =
    let lines = carried_out (keys_of done) (lines_of content) in
    let request = stored (conv_of done call.conn fid) (rpc.request_of content) done in
    let kind = kind_at (node_of (fid_of done call.conn fid)) in
    let reply = prompt.reply_of content in
    either_one done (is_rpc (node_of (fid_of done call.conn fid))) request _
    (same_one done request (stored_raised (conv_of done call.conn fid) (rpc.request_of content) done))
    (either_one done (is_some kind) (replying kind reply done) (lines_done call.conn lines done) (replying_one kind reply done) (same_one done (lines_done call.conn lines done) (lines_raised call.conn lines done)))
body_one done call (t.Clunk fid) = same_one done (given_up_by (OfFids call.conn (Clunked fid)) done) (ends_raised (OfFids call.conn (Clunked fid)) done (λ d e. e))
body_one done call (t.Remove fid) = same_one done (given_up_by (OfFids call.conn (Clunked fid)) done) (ends_raised (OfFids call.conn (Clunked fid)) done (λ d e. e))
body_one done call (t.Stat fid) = omega arith
body_one done call (t.Wstat fid stat) = omega arith

granted_one : (done : List Deed) (call : Call) (came : Result TBody (List ℕ)) → OneMore done (after_granted done call came)
granted_one done call (Err text) = omega arith
granted_one done call (Ok body) = body_one done call body

frame_one : (done : List Deed) (call : Call) (frame : List ℕ) → OneMore done (after_frame done call frame)
unfolding after_frame
frame_one done call frame = granted_one done call (granted done call frame)

replied_raised : (call : Call) (o : Option RBody) (done : List Deed) → raised (replied call o done) ≡ raised done
replied_raised call None done = refl
replied_raised call (Some body) done = refl

request_one : (done : List Deed) (at : ℕ) (frame word : List ℕ) → OneMore done (does done (Request at frame word))
request_one done at frame word =
    let opened = entered at done in
    let call = call_of at frame word in
    let did = answered opened call frame in
    either_one done (was_hung done at) done (swept did) (omega arith)
    (omega (arith, swept_raised did, replied_raised call (body_to opened call frame) (after_frame opened call frame), frame_one opened call frame, entered_raised at done))

-- ---- events

pub requests_raise_one : (H : History) (conn : ℕ) (frame word : List ℕ) → raised (deeds (Request conn frame word ∷ H)) ≤ raised (deeds H) + 1
requests_raise_one H conn frame word =
    let after = does (deeds H) (Request conn frame word) in
    either_one (deeds H) (is_halted (deeds H)) (deeds H) _ (omega arith)
    (either_one (deeds H) (ltb (length H + 1) most_events) after (Halted ∷ after) (request_one (deeds H) conn frame word) (request_one (deeds H) conn frame word))

taking_raised : (at : ℕ) (left : List RMsg) (done : List Deed) → raised (taking at left done) ≡ raised done
taking_raised at [] done = refl
taking_raised at (reply ∷ rest) done = refl

handing_raised : (o : Due) (done : List Deed) → raised (handing o done) ≡ raised done
handing_raised NoneDue done = refl
handing_raised (DropDue drop) done = refl
handing_raised (QuestionDue question) done = refl

done_raised : (H : History) (number : ℕ) (call : calls.Call) → LeavesQuiet call → raised (swept (resumed (asker (deeds H) number) call (deeds H))) ≡ raised (deeds H)
done_raised H number call leaves =
    let done = deeds H in
    swept_raised (resumed (asker done number) call done) ∙ resumed_raised done number call leaves (all_are_asked H) (asker done number) refl

others_do : (e : Event) (H : History) → is_request e ≡ false → raised (does (deeds H) e) ≡ raised (deeds H)
others_do (Request at frame word) H none = absurd cc
others_do (Take at) H none =
    let done = deeds H in
    either_raised (was_hung done at) done (taking at (untaken done at) (entered at done)) (raised done) refl (taking_raised at (untaken done at) (entered at done) ∙ entered_raised at done)
others_do (Hang at) H none = either_raised (was_opened (deeds H) at && not (was_hung (deeds H) at)) _ (deeds H) (raised (deeds H))
    (swept_raised (given_up_by (OfConnection at Hung) (deeds H)) ∙ ends_raised (OfConnection at Hung) (deeds H) (λ d e. e)) refl
others_do Stop H none = refl
others_do (Answer call bytes) H none = done_raised H call (calls.Heard bytes) (heard_quiet bytes)
others_do (NoAnswer call) H none = done_raised H call calls.Unheard unheard_quiet
others_do (NoRoom call) H none = done_raised H call calls.Roomless roomless_quiet
others_do TakeAsk H none = handing_raised (due (deeds H)) (deeds H)

pub others_raise_none : (e : Event) (H : History) → is_request e ≡ false → raised (deeds (e ∷ H)) ≡ raised (deeds H)
others_raise_none e H none =
    let after = does (deeds H) e in
    either_raised (is_halted (deeds H)) (deeds H) _ (raised (deeds H)) refl
    (either_raised (ltb (length H + 1) most_events) after (Halted ∷ after) (raised (deeds H)) (others_do e H none) (others_do e H none))
