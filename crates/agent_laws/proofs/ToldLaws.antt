-- Each text that a refusal tells is short and of plain characters, so that a reply can tell it.
use Rattle.std.proofs.Common.{◌≡◌, ℕ, zero, suc, ◌<◌, List, [], ◌∷◌, length, Bool, true, false, cond, eqb, ltb, ◌&&◌, not, Option, Some, None, refl, subst, arith, codes}
use Rattle.std.specs.Prelude.{Result, Ok, Err, option_map, is_some, take, drop}
use Rattle.std.specs.Option.{option_or}
use Rattle.std.specs.List.{list_all, list_any}
use Rattle.std.specs.Str.{IsAscii, bytes_eq}
use Rattle.std.proofs.lemmas.Bool.{and_parts, and_from, ltb-true, ne_eqb, not_from_false}
use Rattle.std.proofs.lemmas.Str.{IsUtf8-from_ascii, is_utf8-from_IsUtf8}
use Rattle.wire_base.specs.Texts.{is_text}
use Rattle.wire_base.specs.Readers.{IsString}
use Rattle.nine.specs.declared.message.TMsg.{TMsg}
use Rattle.nine.specs.declared.message.TBody.{TBody}
use Rattle.nine.specs.declared.message.TBody.TheVariants as t
use Rattle.nine.specs.Decoding.{request_of}
use Rattle.file_tree.specs.declared.fault.FidFault.{FidFault}
use Rattle.file_tree.specs.declared.fault.FidFault.TheVariants as f
use Rattle.file_tree.specs.Faults.{fault_text}
use Rattle.file_tree.specs.Tree.{is_exclusive}
use Rattle.file_tree.specs.Calls.{fid_fault, open_fault, node_of, mode_of, is_open}
use Rattle.attr_tuples.specs.declared.attr.Attr.{Attr}
use Rattle.key_lists.specs.declared.fault.AddFault.{AddFault}
use Rattle.key_lists.specs.declared.fault.AddFault.TheVariants as a
use Rattle.key_lists.specs.declared.fault.DeleteFault.{DeleteFault}
use Rattle.key_lists.specs.declared.fault.DeleteFault.TheVariants as d
use Rattle.key_lists.specs.Lists.{KeyList, add_fault, delete_fault}
use Rattle.key_lists.specs.Edits.{KeyEdit, Add, Delete}
use Rattle.agent_history.specs.Deeds.{Deed, fid_of, next_of, holder_of}
use Rattle.key_lists.specs.CtlLines.{CtlLine, OnKeys, Debug, add_text, delete_text, few_of, keys_with, line_with, line_fault, line_over, lines_fault, read_line}
use Rattle.agent_history.specs.Requests.{Call, has_answer, is_resting, is_rpc, is_too_long, is_unknown, most_talks, phase_of, refusal, granted, lacks_version, repeats_tag, finds_none, finds_too_long, line_found, replier, is_elsewhere, lets_read, lets_write, waits_enough}
use Rattle.talks.specs.Requests as rpc
use Rattle.agent_history.specs.Replies.{waits_for}
use Rattle.agent_history.specs.Conversations.{speakers}
use Rattle.agent_laws.proofs.MetLaws.{said_over, unless_wrong}
use Rattle.agent_laws.proofs.GrowLaws.{of_message, unless_refused}
use Rattle.agent_laws.proofs.RefusalLaws.{then_fault}
use Rattle.agent_history.specs.SideFiles.{is_line_file, kind_at}
use Rattle.side_files.specs.Replies as prompt

-- ---- one text

abbrev is_low : ℕ → Bool
is_low b = ltb 0 b && ltb b 128

-- fewer than 64 characters, none of them NUL
abbrev pub is_told : List ℕ → Bool
is_told text = ltb (length text) 64 && list_all is_low text

low_ascii : (bytes : List ℕ) → list_all is_low bytes ≡ true → IsAscii bytes
low_ascii [] h i = omega arith
low_ascii (b ∷ bytes) h zero = ltb-true b 128 (and_parts (ltb 0 b) _ (and_parts (is_low b) _ h).0).1
low_ascii (b ∷ bytes) h (suc i) = low_ascii bytes (and_parts (is_low b) _ h).1 i

low_without_nul : (bytes : List ℕ) → list_all is_low bytes ≡ true → list_any (λ b. eqb b 0) bytes ≡ false
low_without_nul [] h = refl
low_without_nul (b ∷ bytes) h =
    let parts = and_parts (is_low b) (list_all is_low bytes) h in
    let ne : eqb b 0 ≡ false = ne_eqb b 0 (λ e. omega (arith, e, ltb-true 0 b (and_parts (ltb 0 b) _ parts.0).0)) in
    rw ne (low_without_nul bytes parts.1)

low_text : (bytes : List ℕ) → list_all is_low bytes ≡ true → is_text bytes ≡ true
unfolding is_text
low_text bytes h = and_from _ _ (not_from_false _ (low_without_nul bytes h)) (is_utf8-from_IsUtf8 bytes (IsUtf8-from_ascii bytes (low_ascii bytes h)))

pub told_short : (text : List ℕ) → is_told text ≡ true → length text < 64
told_short text e = ltb-true (length text) 64 (and_parts (ltb (length text) 64) _ e).0

pub told_string : (text : List ℕ) → is_told text ≡ true → IsString text
told_string text e = record { short = omega (arith, told_short text e); text = low_text text (and_parts (ltb (length text) 64) _ e).1 }

pub fault_told : (fault : FidFault) → is_told (fault_text fault) ≡ true
fault_told f.UnknownFid = refl
fault_told f.InUse = refl
fault_told f.TooMany = refl
fault_told f.AlreadyOpen = refl
fault_told f.NotDirectory = refl
fault_told f.NotFound = refl
fault_told f.BadMode = refl
fault_told f.Denied = refl
fault_told f.BadOffset = refl
fault_told f.NoMemory = refl

add_told : (fault : AddFault) → is_told (add_text fault) ≡ true
add_told a.AskInKey = refl
add_told a.NoProto = refl
add_told a.UnknownProto = refl
add_told a.NoUser = refl
add_told a.NoDom = refl
add_told a.BadName = refl
add_told a.NoSecret = refl
add_told a.BadHex = refl
add_told a.Full = refl
add_told a.NoMemory = refl

delete_told : (fault : DeleteFault) → is_told (delete_text fault) ≡ true
delete_told d.SecretValue = refl
delete_told d.NoneMatched = refl

-- ---- tests

-- where a text is told, it is such a text
abbrev pub Tells : Option (List ℕ) → Type 0
Tells o = (text : List ℕ) → o ≡ Some text → is_told text ≡ true

none_tells : Tells None
none_tells text e = absurd cc

text_tells : (told : List ℕ) → is_told told ≡ true → Tells (Some told)
text_tells told h text e =
    let same : told ≡ text = cc in
    subst (λ (bytes : List ℕ). is_told bytes ≡ true) same h

mapped_tells : {X : Type 0} (text_of : X → List ℕ) → ((x : X) → is_told (text_of x) ≡ true) → (o : Option X) → Tells (option_map text_of o)
mapped_tells text_of told None = none_tells
mapped_tells text_of told (Some x) = text_tells (text_of x) (told x)

either_tells : (x y : Option (List ℕ)) → Tells x → Tells y → Tells (option_or x y)
either_tells None y p q = q
either_tells (Some text) y p q = p

test_tells : (b : Bool) (text : List ℕ) (rest : Option (List ℕ)) → is_told text ≡ true → Tells rest → Tells (cond b (Some text) rest)
test_tells true text rest p q = text_tells text p
test_tells false text rest p q = q

fid_tells : (o : Option FidFault) → Tells (option_map fault_text o)
fid_tells o = mapped_tells fault_text fault_told o

refusal_tells : (done : List Deed) (call : Call) (body : TBody) → Tells (refusal done call body)
unfolding refusal
refusal_tells done call (t.Version msize version) = test_tells _ _ _ refl none_tells
refusal_tells done call (t.Auth afid uname aname) = text_tells _ refl
refusal_tells done call (t.Attach fid afid uname aname) = either_tells _ _ (test_tells _ _ _ refl none_tells) (fid_tells _)
refusal_tells done call (t.Flush oldtag) = none_tells
refusal_tells done call (t.Walk fid newfid wname) = fid_tells _
refusal_tells done call (t.Open fid mode) =
    let node = node_of (fid_of done call.conn fid) in
    let many = test_tells (is_rpc node && not (ltb (length (speakers done)) most_talks)) (codes "too many conversations") _ refl none_tells in
    either_tells (option_map fault_text (open_fault (fid_of done call.conn fid) mode)) _ (fid_tells _)
    (test_tells (is_exclusive node && is_some (holder_of done node)) (codes "exclusive use file already open") _ refl many)
refusal_tells done call (t.Create fid name perm mode) = either_tells _ _ (fid_tells _) (text_tells _ refl)
refusal_tells done call (t.Read fid offset count) =
    let state = fid_of done call.conn fid in
    let rpc_ = is_rpc (node_of state) in
    let phase = phase_of done call.conn fid in
    let what = line_found done call count (node_of state) in
    let small = test_tells (finds_too_long what) (codes "read too small") None refl none_tells in
    let lines = test_tells (is_line_file (node_of state) && (finds_none what && waits_enough done call.conn)) (codes "too many waiting") _ refl small in
    let many = test_tells (rpc_ && (not (has_answer phase) && waits_enough done call.conn)) (codes "too many waiting") _ refl lines in
    let none = test_tells (rpc_ && is_resting phase) (codes "no rpc pending") _ refl many in
    let busy = test_tells (rpc_ && waits_for done call.conn fid) (codes "rpc busy") _ refl none in
    let elsewhere = test_tells (is_elsewhere (node_of state) (next_of done call.conn fid) offset) (codes "bad directory offset") _ refl busy in
    let unread = test_tells (not (lets_read (mode_of state))) (codes "not open for reading") _ refl elsewhere in
    either_tells (option_map fault_text (fid_fault state)) _ (fid_tells _) (test_tells (not (is_open state)) (codes "not open") _ refl unread)
refusal_tells done call (t.Write fid offset content) =
    let state = fid_of done call.conn fid in
    let kind = kind_at (node_of state) in
    let nobody = test_tells (is_some kind && not (is_some (replier done kind (prompt.reply_of content)))) (codes "unknown tag") None refl none_tells in
    let unread = test_tells (is_some kind && not (is_some (prompt.reply_of content))) (codes "bad reply") _ refl nobody in
    let rpc_ = is_rpc (node_of state) in
    let unknown = test_tells (rpc_ && is_unknown (rpc.request_of content)) (codes "unknown rpc verb") _ refl unread in
    let long = test_tells (rpc_ && is_too_long (rpc.request_of content)) (codes "rpc too long") _ refl unknown in
    let busy = test_tells (rpc_ && not (is_resting (phase_of done call.conn fid))) (codes "rpc busy") _ refl long in
    let unwritten = test_tells (not (lets_write (mode_of state))) (codes "not open for writing") _ refl busy in
    either_tells (option_map fault_text (fid_fault state)) _ (fid_tells _) (test_tells (not (is_open state)) (codes "not open") _ refl unwritten)
refusal_tells done call (t.Clunk fid) = either_tells _ _ (fid_tells _) none_tells
refusal_tells done call (t.Remove fid) = either_tells _ _ (fid_tells _) none_tells
refusal_tells done call (t.Stat fid) = either_tells _ _ (fid_tells _) none_tells
refusal_tells done call (t.Wstat fid stat) = either_tells _ _ (fid_tells _) (text_tells _ refl)

-- ---- lines

-- the value is so, or such a text refuses it
pub record Gives {X : Type 0} (P : X → Type 0) (r : Result X (List ℕ)) : Type 0 where
  pub told : (text : List ℕ) → r ≡ Err text → is_told text ≡ true
  pub holds : (x : X) → r ≡ Ok x → P x

gives_text : {X : Type 0} (P : X → Type 0) (told : List ℕ) → is_told told ≡ true → Gives P (Err told)
gives_text P told h = record { told = λ text e. let same : told ≡ text = cc in subst (λ (bytes : List ℕ). is_told bytes ≡ true) same h; holds = λ x e. absurd cc }

gives_value : {X : Type 0} (P : X → Type 0) (x : X) → P x → Gives P (Ok x)
gives_value P x h = record { told = λ text e. absurd cc; holds = λ y e. let same : x ≡ y = cc in subst P same h }

either_gives : {X : Type 0} (P : X → Type 0) (b : Bool) (x y : Result X (List ℕ)) → Gives P x → Gives P y → Gives P (cond b x y)
either_gives P true x y p q = p
either_gives P false x y p q = q

-- a line of which nothing is said
abbrev AnyLine : CtlLine → Type 0
AnyLine said = Unit {0}

line_fault_tells : (keys : KeyList) (said : CtlLine) → Tells (line_fault keys said)
line_fault_tells keys (OnKeys (Add key)) = mapped_tells add_text add_told (add_fault key keys)
line_fault_tells keys (OnKeys (Delete template)) = mapped_tells delete_text delete_told (delete_fault template keys)
line_fault_tells keys Debug = none_tells

with_gives : (edit : List Attr → KeyEdit) (o : Option (List Attr)) → Gives AnyLine (line_with edit o)
with_gives edit None = gives_text AnyLine _ refl
with_gives edit (Some t) = gives_value AnyLine _ tt

read_line_gives : (line : List ℕ) → Gives AnyLine (read_line line)
unfolding read_line
read_line_gives line =
    let other = either_gives AnyLine (bytes_eq line (codes "debug")) (Ok Debug) (Err (codes "unknown ctl verb")) (gives_value AnyLine Debug tt) (gives_text AnyLine (codes "unknown ctl verb") refl) in
    let deletes = either_gives AnyLine (bytes_eq (take 7 line) (codes "delkey ")) _ _ (with_gives Delete (few_of (drop 7 line))) other in
    either_gives AnyLine (bytes_eq (take 4 line) (codes "key ")) _ _ (with_gives Add (few_of (drop 4 line))) deletes

wrong_gives : (said : CtlLine) (fault : Option (List ℕ)) → Tells fault → Gives AnyLine (unless_wrong said fault)
wrong_gives said None h = gives_value AnyLine _ tt
wrong_gives said (Some text) h = gives_text AnyLine text (h text refl)

said_gives : (keys : KeyList) (r : Result CtlLine (List ℕ)) → Gives AnyLine r → Gives AnyLine (said_over keys r)
said_gives keys (Err text) h = gives_text AnyLine text (h.told text refl)
said_gives keys (Ok said) h = wrong_gives said (line_fault keys said) (line_fault_tells keys said)

line_gives : (keys : KeyList) (line : List ℕ) → Gives AnyLine (line_over keys line)
unfolding line_over
line_gives keys line = said_gives keys (read_line line) (read_line_gives line)

line_tells : (keys : KeyList) (lines : List (List ℕ)) → ((said : CtlLine) → Tells (lines_fault (keys_with said keys) lines)) → (r : Result CtlLine (List ℕ)) → Gives AnyLine r → Tells (then_fault keys lines r)
line_tells keys lines more (Ok said) h = more said
line_tells keys lines more (Err text) h = text_tells text (h.told text refl)

pub lines_tell : (keys : KeyList) (lines : List (List ℕ)) → Tells (lines_fault keys lines)
lines_tell keys [] = none_tells
lines_tell keys (line ∷ lines) = line_tells keys lines (λ said. lines_tell (keys_with said keys) lines) (line_over keys line) (line_gives keys line)

-- ---- frames

unrefused_gives : (P : TBody → Type 0) (body : TBody) (o : Option (List ℕ)) → P body → Tells o → Gives P (unless_refused body o)
unrefused_gives P body None p h = gives_value P body p
unrefused_gives P body (Some text) p h = gives_text P text (h text refl)

message_gives : (P : TBody → Type 0) (done : List Deed) (call : Call) (o : Option TMsg) → ((m : TMsg) → o ≡ Some m → P m.body) → Gives P (of_message done call (codes "bad message") o)
message_gives P done call None p = gives_text P _ refl
message_gives P done call (Some m) p =
    either_gives P (lacks_version done call m.body) _ _ (gives_text P _ refl)
    (either_gives P (repeats_tag done call m.body) _ _ (gives_text P _ refl) (unrefused_gives P m.body (refusal done call m.body) (p m refl) (refusal_tells done call m.body)))

-- a frame is refused by such a text, or is a request of which holds what holds of each that is read of it
pub frame_gives : (P : TBody → Type 0) (done : List Deed) (call : Call) (frame : List ℕ) → ((m : TMsg) → request_of frame ≡ Some m → P m.body) → Gives P (granted done call frame)
unfolding granted
frame_gives P done call frame p = either_gives P _ _ _ (gives_text P _ refl) (message_gives P done call (request_of frame) p)
