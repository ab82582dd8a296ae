-- What is done, what is refused and what is answered is the same of deeds that are the same but for the secrets of the
-- keys added.
use Rattle.std.proofs.Common.{◌≡◌, ℕ, List, [], ◌∷◌, length, map, Bool, true, false, cond, eqb, ◌&&◌, not, Option, Some, None, refl, sym, ap, ◌∙◌, codes, ◌||◌}
use Rattle.std.specs.Prelude.{Result, Ok, Err, find, option_map, is_some}
use Rattle.std.specs.List.{list_any}
use Rattle.nine.specs.declared.message.TMsg.{TMsg}
use Rattle.nine.specs.declared.message.RBody.{RBody}
use Rattle.nine.specs.declared.message.RBody.TheVariants as r
use Rattle.nine.specs.declared.message.TBody.{TBody}
use Rattle.nine.specs.declared.message.TBody.TheVariants as t
use Rattle.nine.specs.Decoding.{request_of}
use Rattle.file_tree.specs.declared.tree.Node.{Node}
use Rattle.file_tree.specs.declared.tree.Node.TheVariants.{Root, Factotum, Rpc, Ctl, Confirm, Needkey, Proto, Log}
use Rattle.file_tree.specs.declared.tree.FidState.{FidState}
use Rattle.file_tree.specs.Tree.{lead_to}
use Rattle.file_tree.specs.Directories.{dir_end}
use Rattle.file_tree.specs.Calls.{node_of}
use Rattle.attr_tuples.specs.declared.attr.Attr.{Attr}
use Rattle.attr_tuples.specs.Printing.{hidden}
use Rattle.key_lists.specs.declared.fault.DeleteFault.{DeleteFault}
use Rattle.key_lists.specs.declared.fault.DeleteFault.TheVariants.{NoneMatched}
use Rattle.wire_base.specs.Rules.{first_told}
use Rattle.key_lists.specs.Lists.{KeyList, added, deleted, delete_fault, tells_secret, matching}
use Rattle.key_lists.specs.Edits.{Add, Delete}
use Rattle.key_lists.specs.CtlLines.{CtlLine, OnKeys, Debug, carried_out, delete_text, keys_with, line_fault, line_over, lines_fault, lines_of, read_line}
use Rattle.talks.specs.Requests.{request_of as request_in}
use Rattle.talks.specs.Calls as calls
use Rattle.talks.specs.Standings.{standing}
use Rattle.agent_history.specs.Deeds.{Deed, OfFids, OfKeys, OfReplies, OfConnection, OfTalk, Raised, HandedOut, OfPrompts, OfLog, DropTaken, Swept, Halted, Versioned, Attached, Walked, Opened, Listed, Browsed, Clunked, Edited, Switched, Flushed, fid_of, keys_of, msize_of, Awaited}
use Rattle.agent_history.specs.Conversations.{Speaker, conv_of, given_up_by, resumed}
use Rattle.agent_history.specs.Requests.{Call, call_of, tag_of, after, after_frame, after_granted, agreed, body_for, body_to, content_of, effective, granted, granted_body, is_over, is_rpc, lines_done, phase_in, phase_of, read_reply, reading, reading_file, reading_talk, refusal, reply_of, stored, talk_read, walking, write_reply, writing, written, line_read_reply, reading_line, replier, replying, said_by}
use Rattle.agent_history.specs.declared.event.Event.{Event}
use Rattle.agent_history.specs.Histories.{History, deeds, does}
use Rattle.agent_laws.specs.Laws.{SameButSecrets, all_open, has_conversed, hidden_deed, hidden_edit, is_open_deed, reply_to}
use Rattle.agent_laws.proofs.KindLaws.{FitsIf, KeepsIf, is_asked, is_done, is_line}
use Rattle.agent_laws.proofs.MetLaws.{choice_none, line_is_right, lines_grow, said_over, unless_wrong}
use Rattle.agent_laws.proofs.GrowLaws.{conn_of, does_grows, frame_grows, history_grows, of_message, on_its_own}
use Rattle.agent_laws.proofs.RefusalLaws.{then_fault, then_lines}
use Rattle.agent_laws.proofs.HiddenLaws.{hidden_list, added_hidden, deleted_hidden, line_fault_hidden}
use Rattle.agent_laws.proofs.SightLaws.{SameSight, none_open, sight, none_asked, quiet_ends}
use Rattle.agent_history.specs.SideFiles.{is_line_file, kind_at, line_read, lines_in, prompt_calls, prompts_of}
use Rattle.side_files.specs.declared.line.PromptKind.{PromptKind}
use Rattle.side_files.specs.declared.reply.Reply.{Reply}
use Rattle.side_files.specs.Lines.{Found, Nothing, TooLong, First, found}
use Rattle.side_files.specs.Questions.{asker_of, unread_lines}
use Rattle.side_files.specs.declared.line.PromptKind.TheVariants as k
use Rattle.side_files.specs.Calls as side
use Rattle.side_files.specs.Replies as prompt

-- ---- no deed deletes by a secret

template_open : (template : List Attr) (list : KeyList) → delete_fault template list ≡ None → list_any tells_secret template ≡ false
unfolding delete_fault
template_open template list e = (choice_none (list_any tells_secret template) _ (first_told ((eqb (matching template list) 0, NoneMatched) ∷ [])) e).0

pub fitting_open : (Known : Type 0) (done : List Deed) (deed : Deed) → FitsIf Known done deed → is_open_deed deed ≡ true
fitting_open Known done (OfKeys at (Edited (Add key))) fits = refl
fitting_open Known done (OfKeys at (Edited (Delete template))) fits = ap not (template_open template (keys_of done) fits)
fitting_open Known done (OfKeys at Switched) fits = refl
fitting_open Known done (OfFids at deed) fits = refl
fitting_open Known done (OfReplies at deed) fits = refl
fitting_open Known done (OfConnection at deed) fits = refl
fitting_open Known done (OfTalk talker call) fits = refl
fitting_open Known done (Raised talker) fits = refl
fitting_open Known done HandedOut fits = refl
fitting_open Known done DropTaken fits = refl
fitting_open Known done (OfPrompts about doing) fits = refl
fitting_open Known done (OfLog doing) fits = refl
fitting_open Known done Swept fits = refl
fitting_open Known done Halted fits = refl

abbrev pub AllOpen : List Deed → Type 0
AllOpen done = all_open done ≡ true

open_more : (Known : Type 0) (kind : Deed → Bool) → KeepsIf Known kind AllOpen
open_more Known kind done deed own fits h = rw (fitting_open Known done deed fits) h

pub deeds_open : (H : History) → all_open (deeds H) ≡ true
deeds_open H = history_grows AllOpen (λ conn. open_more (Unit {0}) (is_done conn)) refl H

pub does_open : (H : History) (e : Event) → all_open (does (deeds H) e) ≡ true
does_open H e = does_grows AllOpen (conn_of e) (open_more (Unit {0}) (is_done (conn_of e))) e H (on_its_own e) (deeds_open H)

pub frame_open : (done : List Deed) (call : Call) (frame : List ℕ) → all_open done ≡ true → all_open (after_frame done call frame) ≡ true
frame_open done call frame o = frame_grows ⊥ AllOpen call (open_more ⊥ (is_asked call.conn)) done frame (λ x. absurd x) o

pub lines_open : (done : List Deed) (conn : ℕ) (lines : List (List ℕ)) → all_open done ≡ true → all_open (lines_done conn (carried_out (keys_of done) lines) done) ≡ true
lines_open done conn lines o = lines_grow AllOpen conn (open_more (Unit {0}) (is_line conn)) lines done o

-- ---- lines, over keys that are the same but for secrets

abbrev pub SameKeys : KeyList → KeyList → Type 0
SameKeys a b = hidden_list a ≡ hidden_list b

faults_same : (a b : KeyList) → SameKeys a b → (said : CtlLine) → line_fault a said ≡ line_fault b said
faults_same a b s said = sym (line_fault_hidden a said) ∙ ap (λ (list : KeyList). line_fault list said) s ∙ line_fault_hidden b said

pub key_more : (a b : KeyList) (key : List Attr) (same : List Attr) → map hidden key ≡ map hidden same → SameKeys a b → SameKeys (added key a) (added same b)
key_more a b key same e s =
    sym (added_hidden key a) ∙ ap (λ (k : List Attr). added k (hidden_list a)) e ∙ ap (added (map hidden same)) s ∙ added_hidden same b

with_line : (a b : KeyList) → SameKeys a b → (said : CtlLine) → line_fault a said ≡ None → SameKeys (keys_with said a) (keys_with said b)
with_line a b s (OnKeys (Add key)) right = key_more a b key key refl s
with_line a b s (OnKeys (Delete template)) right =
    let open_ = template_open template a (no_text (delete_fault template a) right) in
    sym (deleted_hidden template a open_) ∙ ap (deleted template) s ∙ deleted_hidden template b open_
  where
    no_text : (o : Option DeleteFault) → option_map delete_text o ≡ None → o ≡ None
    no_text None e = refl
    no_text (Some fault) e = absurd cc
with_line a b s Debug right = s

said_same : (a b : KeyList) → SameKeys a b → (said : Result CtlLine (List ℕ)) → said_over a said ≡ said_over b said
said_same a b s (Err text) = refl
said_same a b s (Ok said) = ap (unless_wrong said) (faults_same a b s said)

line_same : (a b : KeyList) → SameKeys a b → (line : List ℕ) → line_over a line ≡ line_over b line
unfolding line_over
line_same a b s line = said_same a b s (read_line line)

lines_step : (a b : KeyList) → SameKeys a b → (lines : List (List ℕ)) → ((x y : KeyList) → SameKeys x y → carried_out x lines ≡ carried_out y lines)
    → (r : Result CtlLine (List ℕ)) → ((said : CtlLine) → r ≡ Ok said → line_fault a said ≡ None) → then_lines a lines r ≡ then_lines b lines r
lines_step a b s lines more (Err text) right = refl
lines_step a b s lines more (Ok said) right = ap (λ (rest : List CtlLine). said ∷ rest) (more (keys_with said a) (keys_with said b) (with_line a b s said (right said refl)))

pub lines_same : (a b : KeyList) → SameKeys a b → (lines : List (List ℕ)) → carried_out a lines ≡ carried_out b lines
lines_same a b s [] = refl
lines_same a b s (line ∷ lines) =
    lines_step a b s lines (λ x y t. lines_same x y t lines) (line_over a line) (line_is_right a line) ∙ ap (then_lines b lines) (line_same a b s line)

fault_step : (a b : KeyList) → SameKeys a b → (lines : List (List ℕ)) → ((x y : KeyList) → SameKeys x y → lines_fault x lines ≡ lines_fault y lines)
    → (r : Result CtlLine (List ℕ)) → ((said : CtlLine) → r ≡ Ok said → line_fault a said ≡ None) → then_fault a lines r ≡ then_fault b lines r
fault_step a b s lines more (Err text) right = refl
fault_step a b s lines more (Ok said) right = more (keys_with said a) (keys_with said b) (with_line a b s said (right said refl))

pub fault_same : (a b : KeyList) → SameKeys a b → (lines : List (List ℕ)) → lines_fault a lines ≡ lines_fault b lines
fault_same a b s [] = refl
fault_same a b s (line ∷ lines) =
    fault_step a b s lines (λ x y t. fault_same x y t lines) (line_over a line) (line_is_right a line) ∙ ap (then_fault b lines) (line_same a b s line)

-- ---- what is done by lines

unfoldable pub hidden_line : CtlLine → CtlLine
hidden_line (OnKeys edit) = OnKeys (hidden_edit edit)
hidden_line Debug = Debug

pub done_hidden : (conn : ℕ) (said : List CtlLine) (done : List Deed) → map hidden_deed (lines_done conn said done) ≡ lines_done conn (map hidden_line said) (map hidden_deed done)
unfolding hidden_line
done_hidden conn [] done = refl
done_hidden conn (OnKeys edit ∷ said) done = done_hidden conn said (OfKeys conn (Edited edit) ∷ done)
done_hidden conn (Debug ∷ said) done = done_hidden conn said (OfKeys conn Switched ∷ done)

lines_alike : (a b : List Deed) (conn : ℕ) (lines : List (List ℕ)) → SameSight a b → map hidden_deed a ≡ map hidden_deed b → map hidden_deed (lines_done conn (carried_out (keys_of a) lines) a) ≡ map hidden_deed (lines_done conn (carried_out (keys_of b) lines) b)
lines_alike a b conn lines s e =
    done_hidden conn (carried_out (keys_of a) lines) a
    ∙ ap (λ (said : List CtlLine). lines_done conn (map hidden_line said) (map hidden_deed a)) (lines_same (keys_of a) (keys_of b) s.keys lines)
    ∙ ap (lines_done conn (map hidden_line (carried_out (keys_of b) lines))) e
    ∙ sym (done_hidden conn (carried_out (keys_of b) lines) b)

-- ---- what refuses a request

-- the requests of rpc stand alike
phase_alike : (a b : List Deed) → SameSight a b → (conn fid : ℕ) → phase_of a conn fid ≡ phase_of b conn fid
phase_alike a b s conn fid =
    ap (λ (standing : List Speaker). phase_in a (option_map (λ s. s.conv) (find (λ s. eqb s.conn conn && eqb s.fid fid) standing))) s.speaking ∙ by_conv (conv_of b conn fid)
  where
    by_conv : (o : Option ℕ) → phase_in a o ≡ phase_in b o
    by_conv None = refl
    by_conv (Some conv) = ap (λ (calls_ : List calls.Call). (standing calls_).phase) (s.talking conv)

-- files of lines are read alike, and replied to alike
prompts_alike : (a b : List Deed) → SameSight a b → (of : PromptKind) → prompts_of a of ≡ prompts_of b of
prompts_alike a b s of = ap (side.after of) (s.prompting of)

lines_in_alike : (a b : List Deed) → SameSight a b → (node : Node) → lines_in a node ≡ lines_in b node
lines_in_alike a b s Confirm = ap unread_lines (prompts_alike a b s k.Confirm)
lines_in_alike a b s Needkey = ap unread_lines (prompts_alike a b s k.Needkey)
lines_in_alike a b s Log = ap side.held s.logging
lines_in_alike a b s Root = refl
lines_in_alike a b s Factotum = refl
lines_in_alike a b s Rpc = refl
lines_in_alike a b s Ctl = refl
lines_in_alike a b s Proto = refl

replier_alike : (a b : List Deed) → SameSight a b → (kind : Option PromptKind) (reply : Option Reply) → replier a kind reply ≡ replier b kind reply
replier_alike a b s None reply = refl
replier_alike a b s (Some kind) None = refl
replier_alike a b s (Some kind) (Some reply) = ap (asker_of reply.tag) (prompts_alike a b s kind)

refusal_alike : (a b : List Deed) (call : Call) → SameSight a b → (body : TBody) → refusal a call body ≡ refusal b call body
unfolding refusal
refusal_alike a b call s (t.Version msize version) = refl
refusal_alike a b call s (t.Auth afid uname aname) = refl
refusal_alike a b call s (t.Attach fid afid uname aname) = rw (s.fids call.conn fid, s.counts call.conn) refl
refusal_alike a b call s (t.Flush oldtag) = refl
refusal_alike a b call s (t.Walk fid newfid wname) = rw (s.fids call.conn fid, s.fids call.conn newfid, s.counts call.conn) refl
refusal_alike a b call s (t.Open fid mode) = rw (s.fids call.conn fid, s.holders (node_of (fid_of b call.conn fid)), s.speaking) refl
refusal_alike a b call s (t.Create fid name perm mode) = rw (s.fids call.conn fid) refl
refusal_alike a b call s (t.Read fid offset count) = rw (phase_alike a b s call.conn fid, s.fids call.conn fid, s.nexts call.conn fid, s.waiting call.conn, s.msizes call.conn, lines_in_alike a b s (node_of (fid_of b call.conn fid))) refl
refusal_alike a b call s (t.Write fid offset content) = rw (phase_alike a b s call.conn fid, s.fids call.conn fid, replier_alike a b s (kind_at (node_of (fid_of b call.conn fid))) (prompt.reply_of content)) refl
refusal_alike a b call s (t.Clunk fid) = rw (s.fids call.conn fid) refl
refusal_alike a b call s (t.Remove fid) = rw (s.fids call.conn fid) refl
refusal_alike a b call s (t.Stat fid) = rw (s.fids call.conn fid) refl
refusal_alike a b call s (t.Wstat fid stat) = rw (s.fids call.conn fid) refl

body_granted_alike : (a b : List Deed) (call : Call) → SameSight a b → (body : TBody) → granted_body a call body ≡ granted_body b call body
body_granted_alike a b call s body = rw (s.msizes call.conn, s.waiting call.conn, refusal_alike a b call s body) refl

message_alike : (a b : List Deed) (call : Call) (text : List ℕ) → SameSight a b → (o : Option TMsg) → of_message a call text o ≡ of_message b call text o
message_alike a b call text s None = refl
message_alike a b call text s (Some m) = body_granted_alike a b call s m.body

granted_alike : (a b : List Deed) (call : Call) → SameSight a b → (frame : List ℕ) → granted a call frame ≡ granted b call frame
unfolding granted
granted_alike a b call s frame =
    let over : Option ℕ → Result TBody (List ℕ) → Result TBody (List ℕ) = λ m rest. cond (is_over m frame) (Err (codes "message over msize")) rest in
    ap (λ (m : Option ℕ). over m (of_message a call (codes "bad message") (request_of frame))) (s.msizes call.conn)
    ∙ ap (over (msize_of b call.conn)) (message_alike a b call (codes "bad message") s (request_of frame))

-- ---- what is done

walking_alike : (conn newfid : ℕ) (found : Option Node) (a b : List Deed) → map hidden_deed a ≡ map hidden_deed b → map hidden_deed (walking conn newfid found a) ≡ map hidden_deed (walking conn newfid found b)
walking_alike conn newfid None a b e = e
walking_alike conn newfid (Some node) a b e = ap (λ (ds : List Deed). OfFids conn (Walked newfid node) ∷ ds) e

listing_alike : (conn fid : ℕ) (now : Bool) (a b : List Deed) → map hidden_deed a ≡ map hidden_deed b → map hidden_deed (cond now (OfFids conn (Listed fid) ∷ a) a) ≡ map hidden_deed (cond now (OfFids conn (Listed fid) ∷ b) b)
listing_alike conn fid true a b e = ap (λ (ds : List Deed). OfFids conn (Listed fid) ∷ ds) e
listing_alike conn fid false a b e = e

reading_alike : (conn fid offset count : ℕ) (node : Node) (a b : List Deed) → map hidden_deed a ≡ map hidden_deed b → map hidden_deed (reading a conn fid offset count node) ≡ map hidden_deed (reading b conn fid offset count node)
reading_alike conn fid offset count Root a b e = ap (λ (ds : List Deed). OfFids conn (Browsed fid (dir_end Root offset count)) ∷ ds) e
reading_alike conn fid offset count Factotum a b e = ap (λ (ds : List Deed). OfFids conn (Browsed fid (dir_end Factotum offset count)) ∷ ds) e
reading_alike conn fid offset count Ctl a b e = listing_alike conn fid (eqb offset 0) a b e
reading_alike conn fid offset count Rpc a b e = e
reading_alike conn fid offset count Confirm a b e = e
reading_alike conn fid offset count Needkey a b e = e
reading_alike conn fid offset count Proto a b e = e
reading_alike conn fid offset count Log a b e = e

-- as long as no conversation was opened
pub record NoneOpen (a b : List Deed) : Type 0 where
  pub one : (conn fid : ℕ) → conv_of a conn fid ≡ None
  pub other : (conn fid : ℕ) → conv_of b conn fid ≡ None
  pub quiet_one : has_conversed a ≡ false
  pub quiet_other : has_conversed b ≡ false

file_alike : (x : Bool) (one other a b : List Deed) → map hidden_deed one ≡ map hidden_deed other → map hidden_deed a ≡ map hidden_deed b → map hidden_deed (cond x one a) ≡ map hidden_deed (cond x other b)
file_alike true one other a b e f = e
file_alike false one other a b e f = f

line_read_alike : (node : Node) (a b : List Deed) → map hidden_deed a ≡ map hidden_deed b → map hidden_deed (line_read node a) ≡ map hidden_deed (line_read node b)
line_read_alike Confirm a b e = ap (λ (ds : List Deed). OfPrompts k.Confirm side.Read ∷ ds) e
line_read_alike Needkey a b e = ap (λ (ds : List Deed). OfPrompts k.Needkey side.Read ∷ ds) e
line_read_alike Log a b e = ap (λ (ds : List Deed). OfLog side.Taken ∷ ds) e
line_read_alike Root a b e = e
line_read_alike Factotum a b e = e
line_read_alike Rpc a b e = e
line_read_alike Ctl a b e = e
line_read_alike Proto a b e = e

line_alike : (call : Call) (fid count : ℕ) (node : Node) (what : Found) (a b : List Deed) → map hidden_deed a ≡ map hidden_deed b → map hidden_deed (reading_line call fid count node what a) ≡ map hidden_deed (reading_line call fid count node what b)
line_alike call fid count node Nothing a b e = ap (λ (ds : List Deed). OfReplies call.conn (Awaited call.tag fid count) ∷ ds) e
line_alike call fid count node TooLong a b e = e
line_alike call fid count node (First line) a b e = line_read_alike node a b e

-- a reply finds nobody who asked
nobody_replies : (kind : Option PromptKind) (reply : Option Reply) (a b : List Deed) → has_conversed a ≡ false → has_conversed b ≡ false → map hidden_deed a ≡ map hidden_deed b → map hidden_deed (replying kind reply a) ≡ map hidden_deed (replying kind reply b)
nobody_replies None reply a b f g e = e
nobody_replies (Some kind) None a b f g e = e
nobody_replies (Some kind) (Some reply) a b f g e =
    ap (λ (cs : List side.Call). map hidden_deed (resumed (asker_of reply.tag (side.after kind cs)) (said_by kind reply.agrees) (OfPrompts kind (side.Replied reply.tag) ∷ a))) (none_asked a f kind)
    ∙ ap (λ (ds : List Deed). OfPrompts kind (side.Replied reply.tag) ∷ ds) e
    ∙ sym (ap (λ (cs : List side.Call). map hidden_deed (resumed (asker_of reply.tag (side.after kind cs)) (said_by kind reply.agrees) (OfPrompts kind (side.Replied reply.tag) ∷ b))) (none_asked b g kind))

-- fids that are given up end nothing else
ends_alike : (deed : Deed) (a b : List Deed) → ((d : List Deed) (kind : PromptKind) → prompt_calls (deed ∷ d) kind ≡ prompt_calls d kind) → has_conversed a ≡ false → has_conversed b ≡ false → map hidden_deed a ≡ map hidden_deed b
    → map hidden_deed (given_up_by deed a) ≡ map hidden_deed (given_up_by deed b)
ends_alike deed a b same f g e = ap (map hidden_deed) (quiet_ends deed a f (same a)) ∙ ap (λ (ds : List Deed). hidden_deed deed ∷ ds) e ∙ sym (ap (map hidden_deed) (quiet_ends deed b g (same b)))

read_alike : (a b : List Deed) (call : Call) (fid offset count : ℕ) (node : Node) → SameSight a b → NoneOpen a b → map hidden_deed a ≡ map hidden_deed b
    → map hidden_deed (reading_file a call fid offset count node) ≡ map hidden_deed (reading_file b call fid offset count node)
read_alike a b call fid offset count node s none e =
    file_alike (is_rpc node) _ _ _ _
    (ap (λ (o : Option ℕ). map hidden_deed (reading_talk call fid count o a)) (none.one call.conn fid) ∙ e ∙ sym (ap (λ (o : Option ℕ). map hidden_deed (reading_talk call fid count o b)) (none.other call.conn fid)))
    (file_alike (is_line_file node) _ _ (reading a call.conn fid offset count node) (reading b call.conn fid offset count node)
    (ap (λ (lines : List (List ℕ)). map hidden_deed (reading_line call fid count node (found count lines) a)) (lines_in_alike a b s node) ∙ line_alike call fid count node (found count (lines_in b node)) a b e)
    (reading_alike call.conn fid offset count node a b e))

write_alike : (a b : List Deed) (call : Call) (fid : ℕ) (content : List ℕ) (node : Node) → SameSight a b → NoneOpen a b → map hidden_deed a ≡ map hidden_deed b
    → map hidden_deed (writing a call fid content node) ≡ map hidden_deed (writing b call fid content node)
write_alike a b call fid content node s none e =
    file_alike (is_rpc node) _ _ _ _
    (ap (λ (o : Option ℕ). map hidden_deed (stored o (request_in content) a)) (none.one call.conn fid) ∙ e ∙ sym (ap (λ (o : Option ℕ). map hidden_deed (stored o (request_in content) b)) (none.other call.conn fid)))
    (file_alike (is_some (kind_at node)) _ _ _ _ (nobody_replies (kind_at node) (prompt.reply_of content) a b none.quiet_one none.quiet_other e) (lines_alike a b call.conn (lines_of content) s e))

after_alike : (a b : List Deed) (call : Call) → SameSight a b → NoneOpen a b → map hidden_deed a ≡ map hidden_deed b → (body : TBody) → map hidden_deed (after a call body) ≡ map hidden_deed (after b call body)
unfolding after
after_alike a b call s none e (t.Version msize version) = ends_alike (OfFids call.conn (Versioned (agreed msize version))) a b (λ d kind. refl) none.quiet_one none.quiet_other e
after_alike a b call s none e (t.Auth afid uname aname) = e
after_alike a b call s none e (t.Attach fid afid uname aname) = ap (λ (ds : List Deed). OfFids call.conn (Attached fid) ∷ ds) e
after_alike a b call s none e (t.Flush oldtag) = ap (λ (ds : List Deed). OfReplies call.conn (Flushed oldtag) ∷ ds) e
after_alike a b call s none e (t.Walk fid newfid wname) =
    ap (λ (o : Option FidState). map hidden_deed (walking call.conn newfid (lead_to (node_of o) wname) a)) (s.fids call.conn fid)
    ∙ walking_alike call.conn newfid (lead_to (node_of (fid_of b call.conn fid)) wname) a b e
after_alike a b call s none e (t.Open fid mode) = ap (λ (ds : List Deed). OfFids call.conn (Opened fid mode) ∷ ds) e
after_alike a b call s none e (t.Create fid name perm mode) = e
after_alike a b call s none e (t.Read fid offset count) =
    ap (λ (o : Option FidState). map hidden_deed (reading_file a call fid offset (effective count (msize_of a call.conn)) (node_of o))) (s.fids call.conn fid)
    ∙ ap (λ (m : Option ℕ). map hidden_deed (reading_file a call fid offset (effective count m) (node_of (fid_of b call.conn fid)))) (s.msizes call.conn)
    ∙ read_alike a b call fid offset (effective count (msize_of b call.conn)) (node_of (fid_of b call.conn fid)) s none e
after_alike a b call s none e (t.Write fid offset content) =
    ap (λ (o : Option FidState). map hidden_deed (writing a call fid content (node_of o))) (s.fids call.conn fid)
    ∙ write_alike a b call fid content (node_of (fid_of b call.conn fid)) s none e
after_alike a b call s none e (t.Clunk fid) = ends_alike (OfFids call.conn (Clunked fid)) a b (λ d kind. refl) none.quiet_one none.quiet_other e
after_alike a b call s none e (t.Remove fid) = ends_alike (OfFids call.conn (Clunked fid)) a b (λ d kind. refl) none.quiet_one none.quiet_other e
after_alike a b call s none e (t.Stat fid) = e
after_alike a b call s none e (t.Wstat fid stat) = e

after_granted_alike : (a b : List Deed) (call : Call) → SameSight a b → NoneOpen a b → map hidden_deed a ≡ map hidden_deed b → (g : Result TBody (List ℕ)) → map hidden_deed (after_granted a call g) ≡ map hidden_deed (after_granted b call g)
after_granted_alike a b call s none e (Err text) = e
after_granted_alike a b call s none e (Ok body) = after_alike a b call s none e body

pub none_is_open : (a b : List Deed) → SameButSecrets a b → has_conversed a ≡ false → NoneOpen a b
none_is_open a b s none =
    let off = sym (sight a b s).conversed ∙ none in
    record { one = none_open a none; other = none_open b off; quiet_one = none; quiet_other = off }

frame_is_alike : (a b : List Deed) → SameButSecrets a b → has_conversed a ≡ false → (call : Call) (frame : List ℕ) → map hidden_deed (after_frame a call frame) ≡ map hidden_deed (after_frame b call frame)
unfolding after_frame
frame_is_alike a b s none call frame =
    after_granted_alike a b call (sight a b s) (none_is_open a b s none) s.alike (granted a call frame)
    ∙ ap (λ (g : Result TBody (List ℕ)). map hidden_deed (after_granted b call g)) (granted_alike a b call (sight a b s) frame)

pub frame_alike : (a b : List Deed) → SameButSecrets a b → has_conversed a ≡ false → (call : Call) (frame : List ℕ) → SameButSecrets (after_frame a call frame) (after_frame b call frame)
frame_alike a b s none call frame = record { alike = frame_is_alike a b s none call frame; open_deletes = frame_open a call frame s.open_deletes }

-- ---- what is replied

content_alike : (a b : List Deed) (conn fid offset count : ℕ) → SameSight a b → (node : Node) → content_of a conn fid offset count node ≡ content_of b conn fid offset count node
content_alike a b conn fid offset count s Root = refl
content_alike a b conn fid offset count s Factotum = refl
content_alike a b conn fid offset count s Ctl = rw (s.shown, s.texts conn fid) refl
content_alike a b conn fid offset count s Proto = refl
content_alike a b conn fid offset count s Rpc = refl
content_alike a b conn fid offset count s Confirm = refl
content_alike a b conn fid offset count s Needkey = refl
content_alike a b conn fid offset count s Log = refl

read_replies_alike : (a b : List Deed) (call : Call) (fid offset count : ℕ) (node : Node) → SameSight a b → NoneOpen a b → read_reply a call fid offset count node ≡ read_reply b call fid offset count node
read_replies_alike a b call fid offset count node s none = by_file (is_rpc node)
  where
    none_waits : talk_read call.word count (conv_of a call.conn fid) a ≡ talk_read call.word count (conv_of b call.conn fid) b
    none_waits = ap (λ (o : Option ℕ). talk_read call.word count o a) (none.one call.conn fid) ∙ sym (ap (λ (o : Option ℕ). talk_read call.word count o b) (none.other call.conn fid))

    by_lines : (x : Bool) → cond x (line_read_reply (found count (lines_in a node))) (Some (r.Read (content_of a call.conn fid offset count node))) ≡ cond x (line_read_reply (found count (lines_in b node))) (Some (r.Read (content_of b call.conn fid offset count node)))
    by_lines true = ap (λ (lines : List (List ℕ)). line_read_reply (found count lines)) (lines_in_alike a b s node)
    by_lines false = ap (λ (content : List ℕ). Some (r.Read content)) (content_alike a b call.conn fid offset count s node)

    by_file : (x : Bool) → cond x (talk_read call.word count (conv_of a call.conn fid) a) (cond (is_line_file node) (line_read_reply (found count (lines_in a node))) (Some (r.Read (content_of a call.conn fid offset count node))))
        ≡ cond x (talk_read call.word count (conv_of b call.conn fid) b) (cond (is_line_file node) (line_read_reply (found count (lines_in b node))) (Some (r.Read (content_of b call.conn fid offset count node))))
    by_file true = none_waits
    by_file false = by_lines (is_line_file node)

write_replies_alike : (a b : List Deed) (content : List ℕ) (node : Node) → SameSight a b → write_reply a content node ≡ write_reply b content node
write_replies_alike a b content node s = by_file (is_rpc node || is_some (kind_at node))
  where
    by_file : (x : Bool) → cond x (r.Write (length content)) (written content (lines_fault (keys_of a) (lines_of content))) ≡ cond x (r.Write (length content)) (written content (lines_fault (keys_of b) (lines_of content)))
    by_file true = refl
    by_file false = ap (written content) (fault_same (keys_of a) (keys_of b) s.keys (lines_of content))

reply_alike : (a b : List Deed) (call : Call) → SameSight a b → NoneOpen a b → (body : TBody) → reply_of a call body ≡ reply_of b call body
unfolding reply_of
reply_alike a b call s none (t.Version msize version) = refl
reply_alike a b call s none (t.Auth afid uname aname) = refl
reply_alike a b call s none (t.Attach fid afid uname aname) = refl
reply_alike a b call s none (t.Flush oldtag) = refl
reply_alike a b call s none (t.Walk fid newfid wname) = rw (s.fids call.conn fid) refl
reply_alike a b call s none (t.Open fid mode) = rw (s.fids call.conn fid) refl
reply_alike a b call s none (t.Create fid name perm mode) = refl
reply_alike a b call s none (t.Read fid offset count) =
    ap (λ (o : Option FidState). read_reply a call fid offset (effective count (msize_of a call.conn)) (node_of o)) (s.fids call.conn fid)
    ∙ ap (λ (m : Option ℕ). read_reply a call fid offset (effective count m) (node_of (fid_of b call.conn fid))) (s.msizes call.conn)
    ∙ read_replies_alike a b call fid offset (effective count (msize_of b call.conn)) (node_of (fid_of b call.conn fid)) s none
reply_alike a b call s none (t.Write fid offset content) =
    ap (λ (o : Option FidState). Some (write_reply a content (node_of o))) (s.fids call.conn fid) ∙ ap Some (write_replies_alike a b content (node_of (fid_of b call.conn fid)) s)
reply_alike a b call s none (t.Clunk fid) = refl
reply_alike a b call s none (t.Remove fid) = refl
reply_alike a b call s none (t.Stat fid) = rw (s.fids call.conn fid) refl
reply_alike a b call s none (t.Wstat fid stat) = refl

body_for_alike : (a b : List Deed) (call : Call) → SameSight a b → NoneOpen a b → (g : Result TBody (List ℕ)) → body_for a call g ≡ body_for b call g
body_for_alike a b call s none (Err text) = refl
body_for_alike a b call s none (Ok body) = reply_alike a b call s none body

pub body_to_alike : (a b : List Deed) → SameButSecrets a b → has_conversed a ≡ false → (call : Call) (frame : List ℕ) → body_to a call frame ≡ body_to b call frame
unfolding body_to
body_to_alike a b s none call frame =
    ap (body_for a call) (granted_alike a b call (sight a b s) frame) ∙ body_for_alike a b call (sight a b s) (none_is_open a b s none) (granted b call frame)

pub reply_to_alike : (a b : List Deed) → SameButSecrets a b → has_conversed a ≡ false → (conn : ℕ) (frame word : List ℕ) → reply_to a conn frame word ≡ reply_to b conn frame word
unfolding reply_to
reply_to_alike a b s none conn frame word = ap (option_map (λ (body : RBody). record { tag = tag_of frame; body = body })) (body_to_alike a b s none (call_of conn frame word) frame)
