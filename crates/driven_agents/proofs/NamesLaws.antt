-- No fid of an agent that a network drives ever comes to name a file of lines.
use Rattle.std.proofs.Common.{◌≡◌, ◌^◌, ◌%◌, ℕ, zero, suc, List, [], ◌∷◌, Bool, true, false, cond, not, codes, Option, Some, None, refl, sym, ap, subst, arith}
use Rattle.std.specs.List.{list_all}
use Rattle.std.specs.Str.{bytes_eq, is_utf8, chars}
use lib.Utf8.{encode}
use Rattle.std.proofs.lemmas.Bool.{and_from}
use Rattle.wire_base.specs.Readers.{FitsList, IsString}
use Rattle.wire_base.specs.Texts.{is_text}
use Rattle.nine.specs.declared.message.TMsg.{TMsg}
use Rattle.nine.specs.declared.message.TBody.{TBody}
use Rattle.nine.specs.declared.message.TBody.TheVariants as t
use Rattle.nine.specs.Messages.{t_frame}
use Rattle.file_tree.specs.declared.tree.Node.{Node}
use Rattle.file_tree.specs.declared.tree.Node.TheVariants.{Root, Factotum, Rpc, Ctl, Confirm, Needkey, Proto, Log}
use Rattle.file_tree.specs.Tree.{lead_to, step}
use Rattle.file_tree.specs.Calls.{node_of}
use Rattle.key_lists.specs.CtlLines.{CtlLine, carried_out}
use Rattle.agent_history.specs.declared.event.Event.{Event}
use Rattle.agent_history.specs.declared.event.Event.TheVariants.{NoAnswer, Take, TakeAsk}
use Rattle.agent_history.specs.declared.event.Event.TheVariants as events
use Rattle.agent_history.specs.Deeds.{Deed, OfFids, OfKeys, OfReplies, OfConnection, OfTalk, Raised, HandedOut, OfPrompts, OfLog, DropTaken, Swept, Halted, Versioned, Attached, Walked, Opened, Listed, Browsed, Clunked, fid_of, keys_of}
use Rattle.agent_history.specs.SideFiles.{is_line_file}
use Rattle.agent_history.specs.Requests.{line_deed, lines_done, walking}
use Rattle.agent_history.specs.Histories.{History, answer, deeds, is_reply}
use Rattle.world_history.specs.Acts.{Act, Domain, KeyLine, SpeakLine, Made, Told, Started, Got, Given, Answered, Unanswered, Asked, Closed}
use Rattle.world_history.specs.Acts as acts
use Rattle.world_history.specs.Driving.{agrees, all_taken, ask_up, asks_of, attaches, clunks, drive, hands_out, is_refused, new_node, opens, reads, replies_to, take_up, takes_of, walks, writes}
use Rattle.world_history.specs.Talking.{request_text, word_of}
use Rattle.world_history.specs.Turns.{Turn, after, asks, closes, hears, lets_open, misses, tells}
use Rattle.world_history.specs.Worlds.{Done, done_by, history, history_by}
use Rattle.driven_agents.specs.Quiet.{NamesNoLines, NodesNameNoLines, leads_away}
use Rattle.driven_agents.proofs.EditGrows.{KeepsFrame, KeepsLines, KeepsPlain, KeepsWalk, driven_keeps, is_special}
use Rattle.driven_agents.proofs.FrameKinds.{attach_so, clunk_so, frame_read, open_so, read_so, version_so, walk_read, write_so}

-- ---- events

away : (deed : Deed) → is_special deed ≡ false → leads_away deed ≡ true
away (OfFids at (Versioned msize)) plain = refl
away (OfFids at (Attached f)) plain = refl
away (OfFids at (Walked f node)) plain = absurd cc
away (OfFids at (Opened f mode)) plain = refl
away (OfFids at (Listed f)) plain = refl
away (OfFids at (Browsed f next)) plain = refl
away (OfFids at (Clunked f)) plain = refl
away (OfKeys at deed) plain = refl
away (OfReplies at deed) plain = refl
away (OfConnection at deed) plain = refl
away (OfTalk conv call) plain = refl
away (OfPrompts kind call) plain = refl
away (OfLog call) plain = refl
away (Raised conv) plain = refl
away HandedOut plain = refl
away DropTaken plain = refl
away Swept plain = refl
away Halted plain = refl

plain_away : KeepsPlain NamesNoLines
plain_away done deed plain p = and_from (leads_away deed) (list_all leads_away done) (away deed plain) p

said_away : (conn : ℕ) (said : List CtlLine) (done : List Deed) → NamesNoLines done → NamesNoLines (lines_done conn said done)
said_away conn [] done p = p
said_away conn (line ∷ said) done p = said_away conn said (OfKeys conn (line_deed line) ∷ done) p

lines_away : KeepsLines NamesNoLines
lines_away conn lines done p = said_away conn (carried_out (keys_of done) lines) done p

abbrev Away : History → Type 0
Away H = NamesNoLines (deeds H)

event_away : (e : Event) (H : History) → KeepsFrame NamesNoLines e → Away H → Away (e ∷ H)
event_away e H w p = driven_keeps NamesNoLines plain_away lines_away e H w p

either_away : (b : Bool) (one other : History) → Away one → Away other → Away (cond b one other)
either_away true one other p q = p
either_away false one other p q = q

takes_away : (n : ℕ) (H : History) → Away H → Away (take_up n H)
takes_away zero H p = p
takes_away (suc n) H p =
    let once = event_away (Take 0) H tt p in
    either_away (is_reply (answer H (Take 0)).0) (take_up n (Take 0 ∷ H)) (Take 0 ∷ H) (takes_away n (Take 0 ∷ H) once) once

asks_away : (n : ℕ) (H : History) → Away H → Away (ask_up n H)
asks_away zero H p = p
asks_away (suc n) H p =
    let once = event_away TakeAsk H tt p in
    either_away (hands_out (answer H TakeAsk).0) (ask_up n (TakeAsk ∷ H)) (TakeAsk ∷ H) (asks_away n (TakeAsk ∷ H) once) once

drive_away : (e : Event) (H : History) → KeepsFrame NamesNoLines e → Away H → Away (drive e H)
unfolding drive
drive_away e H w p =
    let taken = all_taken (e ∷ H) in
    asks_away (asks_of taken) taken (takes_away (takes_of (e ∷ H)) (e ∷ H) (event_away e H w p))

-- ---- requests

abbrev Keeps : TBody → Type 0
Keeps body = KeepsWalk NamesNoLines body

writes_away : (fid : ℕ) (bytes : List ℕ) → KeepsFrame NamesNoLines (writes fid bytes)
writes_away fid bytes = let asked : TMsg = record { tag = 0; body = t.Write fid 0 bytes } in λ m e. write_so Keeps (λ f o c. tt) (t_frame asked) m.body (frame_read asked m e)

reads_away : (fid : ℕ) (word : List ℕ) → KeepsFrame NamesNoLines (reads fid word)
reads_away fid word = let asked : TMsg = record { tag = fid; body = t.Read fid 0 8192 } in λ m e. read_so Keeps (λ f o c. tt) (t_frame asked) m.body (frame_read asked m e)

opens_away : (fid : ℕ) → KeepsFrame NamesNoLines (opens fid)
opens_away fid = let asked : TMsg = record { tag = 0; body = t.Open fid 2 } in λ m e. open_so Keeps (λ f o. tt) (t_frame asked) m.body (frame_read asked m e)

clunks_away : (fid : ℕ) → KeepsFrame NamesNoLines (clunks fid)
clunks_away fid = let asked : TMsg = record { tag = 0; body = t.Clunk fid } in λ m e. clunk_so Keeps (λ f. tt) (t_frame asked) m.body (frame_read asked m e)

agrees_away : KeepsFrame NamesNoLines agrees
agrees_away = let asked : TMsg = record { tag = 65535; body = t.Version 8216 (codes "9P2000") } in λ m e. version_so Keeps (λ f o. tt) (t_frame asked) m.body (frame_read asked m e)

attaches_away : KeepsFrame NamesNoLines attaches
attaches_away = let asked : TMsg = record { tag = 0; body = t.Attach 0 4294967295 (codes "world") [] } in λ m e. attach_so Keeps (λ f a u n. tt) (t_frame asked) m.body (frame_read asked m e)

-- ---- walks

abbrev EndsAway : Option Node → Type 0
EndsAway None = Unit {0}
EndsAway (Some node) = is_line_file node ≡ false

walking_away : (conn newfid : ℕ) (o : Option Node) (done : List Deed) → EndsAway o → NamesNoLines done → NamesNoLines (walking conn newfid o done)
walking_away conn newfid None done is p = p
walking_away conn newfid (Some node) done is p = and_from (not (is_line_file node)) (list_all leads_away done) (ap not is) p

abbrev way_to : List ℕ → List (List ℕ)
way_to file = codes "factotum" ∷ file ∷ []

pub to_rpc : (node : Node) → EndsAway (lead_to node (way_to (codes "rpc")))
unfolding step
to_rpc Root = refl
to_rpc Factotum = tt
to_rpc Rpc = tt
to_rpc Ctl = tt
to_rpc Confirm = tt
to_rpc Needkey = tt
to_rpc Proto = tt
to_rpc Log = tt

pub to_ctl : (node : Node) → EndsAway (lead_to node (way_to (codes "ctl")))
unfolding step
to_ctl Root = refl
to_ctl Factotum = tt
to_ctl Rpc = tt
to_ctl Ctl = tt
to_ctl Confirm = tt
to_ctl Needkey = tt
to_ctl Proto = tt
to_ctl Log = tt

a_string : IsString (codes "factotum")
unfolding is_text is_utf8 chars encode
a_string = record { short = omega arith; text = refl }

rpc_string : IsString (codes "rpc")
unfolding is_text is_utf8 chars encode
rpc_string = record { short = omega arith; text = refl }

ctl_string : IsString (codes "ctl")
unfolding is_text is_utf8 chars encode
ctl_string = record { short = omega arith; text = refl }

fits_way : (file : List ℕ) → IsString file → FitsList 16 IsString (way_to file)
fits_way file is = record { few = omega arith; each = (a_string, (is, tt)) }

walks_away : (fid : ℕ) (file : List ℕ) → IsString file → ((node : Node) → EndsAway (lead_to node (way_to file))) → KeepsFrame NamesNoLines (walks fid file)
walks_away fid file is ends = λ m e. subst Keeps (sym (walk_read fid (way_to file) m (fits_way file is) e)) (λ done call p. walking_away call.conn (fid % 2 ^ 32) (lead_to (node_of (fid_of done call.conn 0)) (way_to file)) done (ends (node_of (fid_of done call.conn 0))) p)

-- ---- turns

new_away : Away new_node
new_away =
    drive_away (opens 1) (drive (walks 1 (codes "ctl")) (drive attaches (drive agrees []))) (opens_away 1)
    (drive_away (walks 1 (codes "ctl")) (drive attaches (drive agrees [])) (walks_away 1 (codes "ctl") ctl_string to_ctl)
    (drive_away attaches (drive agrees []) attaches_away
    (drive_away agrees [] agrees_away refl)))

turn_away : (turn : Turn) (H : History) → Away H → Away (after turn H)
unfolding after
turn_away (tells node line) H p = drive_away (writes 1 line) H (writes_away 1 line) p
turn_away (lets_open fid) H p = drive_away (opens fid) (drive (walks fid (codes "rpc")) H) (opens_away fid) (drive_away (walks fid (codes "rpc")) H (walks_away fid (codes "rpc") rpc_string to_rpc) p)
turn_away (asks conv fid what) H p =
    let write = writes fid (request_text what) in
    let written = drive_away write H (writes_away fid (request_text what)) p in
    either_away (is_refused (replies_to write H)) (drive write H) (drive (reads fid (word_of what)) (drive write H)) written (drive_away (reads fid (word_of what)) (drive write H) (reads_away fid (word_of what)) written)
turn_away (hears conv fid call bytes) H p = drive_away (events.Answer call bytes) H tt p
turn_away (misses conv fid call) H p = drive_away (NoAnswer call) H tt p
turn_away (closes conv fid) H p = drive_away (clunks fid) H (clunks_away fid) p

done_away : (o : Option Done) (agent : List ℕ) (H : History) → Away H → Away (history_by o agent H)
done_away None agent H p = p
done_away (Some done) agent H p = either_away (bytes_eq done.agent agent) (after done.turn H) H (turn_away done.turn H p) p

pub names_no_lines : NodesNameNoLines
names_no_lines [] node = refl
names_no_lines (Made name ∷ before) node = either_away (bytes_eq (acts.agent_of before name) node) new_node (history before node) new_away (names_no_lines before node)
names_no_lines (acts.Restarted name ∷ before) node = either_away (bytes_eq (acts.agent_of (acts.Restarted name ∷ before) name) node) new_node (history before node) new_away (names_no_lines before node)
names_no_lines (acts.Reloaded ∷ before) node = names_no_lines before node
names_no_lines (Domain dom ∷ before) node = names_no_lines before node
names_no_lines (KeyLine tuple ∷ before) node = names_no_lines before node
names_no_lines (SpeakLine tuple ∷ before) node = names_no_lines before node
names_no_lines (Told at line ∷ before) node = done_away (done_by before (Told at line)) node (history before node) (names_no_lines before node)
names_no_lines (acts.Opened at conv ∷ before) node = done_away (done_by before (acts.Opened at conv)) node (history before node) (names_no_lines before node)
names_no_lines (Started conv word tuple ∷ before) node = done_away (done_by before (Started conv word tuple)) node (history before node) (names_no_lines before node)
names_no_lines (Got conv ∷ before) node = done_away (done_by before (Got conv)) node (history before node) (names_no_lines before node)
names_no_lines (Given conv bytes ∷ before) node = done_away (done_by before (Given conv bytes)) node (history before node) (names_no_lines before node)
names_no_lines (Answered conv bytes call ∷ before) node = done_away (done_by before (Answered conv bytes call)) node (history before node) (names_no_lines before node)
names_no_lines (Unanswered conv call ∷ before) node = done_away (done_by before (Unanswered conv call)) node (history before node) (names_no_lines before node)
names_no_lines (Asked session request words ∷ before) node = names_no_lines before node
names_no_lines (Closed conv ∷ before) node = done_away (done_by before (Closed conv)) node (history before node) (names_no_lines before node)
