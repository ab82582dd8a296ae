-- How a request is answered: the tests that refuse it, in their order, each with its text; what it does where none of
-- them holds; and what is replied. After section 5 of the Plan 9 manual and factotum(4); that these are the tests,
-- their order and their texts are this project's.
use Rattle.std.specs.Prelude.{ℕ, ◌-◌, min, List, [], ◌∷◌, length, take, drop, map, Bool, true, false, not, ◌&&◌, ◌||◌, ◌==◌, nat_lt, Option, Some, None, is_some, Result, Ok, Err, option_map, codes, if◌then◌else◌}
use Rattle.std.specs.Option.{option_or}
use Rattle.std.specs.Int.{w16}
use Rattle.std.specs.Str.{bytes_eq}
use Rattle.wire_base.specs.Readers.{number, value_of}
use Rattle.wire_base.specs.Rules.{Rule, first_told}
use Rattle.nine.specs.declared.message.TBody.{TBody}
use Rattle.nine.specs.declared.message.TBody.TheVariants as t
use Rattle.nine.specs.declared.message.RBody.{RBody}
use Rattle.nine.specs.declared.message.RBody.TheVariants as r
use Rattle.nine.specs.Decoding.{request_of}
use Rattle.file_tree.specs.declared.tree.Node.{Node}
use Rattle.file_tree.specs.declared.tree.Node.TheVariants.{Root, Factotum, Rpc, Ctl, Proto}
use Rattle.file_tree.specs.declared.fault.FidFault.{FidFault}
use Rattle.file_tree.specs.Faults.{fault_text}
use Rattle.file_tree.specs.Tree.{qid_of, is_directory, is_exclusive, visited, lead_to}
use Rattle.file_tree.specs.Stats.{record_of}
use Rattle.file_tree.specs.Directories.{dir_bytes, dir_end}
use Rattle.file_tree.specs.Calls.{fid_fault, attach_fault, walk_fault, open_fault, dir_fault, node_of, mode_of, is_open, reads, writes}
use Rattle.key_lists.specs.Listing.{list_text}
use Rattle.key_lists.specs.CtlLines.{CtlLine, OnKeys, Debug, lines_of, carried_out, lines_fault}
use Rattle.agent_history.specs.Deeds.{Deed, KeyDeed, OfFids, OfKeys, OfReplies, OfTalk, OfPrompts, Versioned, Attached, Walked, Opened, Listed, Browsed, Clunked, Edited, Switched, Answered, Awaited, Flushed, msize_of, fid_of, held_by, next_of, holder_of, keys_of, text_of}
use Rattle.talks.specs.Requests.{RpcRequest}
use Rattle.talks.specs.Requests as rpc
use Rattle.talks.specs.declared.request.RpcFault.{RpcFault}
use Rattle.talks.specs.declared.request.RpcFault.TheVariants as fault
use Rattle.side_files.specs.declared.line.PromptKind.{PromptKind}
use Rattle.side_files.specs.declared.line.PromptKind.TheVariants as k
use Rattle.side_files.specs.declared.reply.Reply.{Reply}
use Rattle.side_files.specs.Calls as side
use Rattle.side_files.specs.Lines.{Found, Nothing, TooLong, First, found}
use Rattle.side_files.specs.Questions.{asker_of}
use Rattle.side_files.specs.Replies as prompt
use Rattle.talks.specs.Calls as calls
use Rattle.talks.specs.Standings.{Phase, Kept, Resting, Waiting}
use Rattle.agent_history.specs.Replies.{too_small, waits, waits_for, waits_under}
use Rattle.agent_history.specs.SideFiles.{is_line_file, kind_at, line_read, lines_in, prompts_of}
use Rattle.agent_history.specs.Conversations.{conv_of, given_up_by, met, resumed, speakers, standing_of, then_took, told}

-- what every request carries: its connection, its tag, and the word that was drawn for it
pub record Call : Type 0 where
  pub conn : ℕ
  pub tag : ℕ
  pub word : List ℕ

-- ---- the words of the tests

-- the largest message that the agent agrees to, and the smallest
abbrev pub most_msize : ℕ
most_msize = 8216

abbrev pub least_msize : ℕ
least_msize = 256

-- no fid
abbrev pub nofid : ℕ
nofid = 4294967295

-- a version is agreed
abbrev pub has_version : List Deed → ℕ → Bool
has_version done conn = is_some (msize_of done conn)

-- the version is 9P2000, or one of its dialects
abbrev pub is_known : List ℕ → Bool
is_known version = bytes_eq version (codes "9P2000") || bytes_eq (take 7 version) (codes "9P2000.")

-- the mode in which a fid is open lets it be read, and written
abbrev pub lets_read : Option ℕ → Bool
lets_read None = false
lets_read (Some mode) = reads mode

abbrev pub lets_write : Option ℕ → Bool
lets_write None = false
lets_write (Some mode) = writes mode

-- the file of conversations
abbrev pub is_rpc : Node → Bool
is_rpc Rpc = true
is_rpc node = false

-- how many conversations may stand, and how many reads of a connection may wait
abbrev pub most_talks : ℕ
most_talks = 1024

abbrev pub most_waits : ℕ
most_waits = 64

-- what became of the latest request of the conversation that a fid has open
abbrev pub phase_in : List Deed → Option ℕ → Phase
phase_in done None = Resting
phase_in done (Some conv) = (standing_of done conv).phase

abbrev pub phase_of : List Deed → ℕ → ℕ → Phase
phase_of done conn fid = phase_in done (conv_of done conn fid)

abbrev pub is_resting : Phase → Bool
is_resting Resting = true
is_resting phase = false

abbrev pub has_answer : Phase → Bool
has_answer (Kept answer) = true
has_answer phase = false

-- as many reads of a connection wait as may
abbrev pub waits_enough : List Deed → ℕ → Bool
waits_enough done conn = not (nat_lt (length (waits done conn)) most_waits)

-- what is written is no request of rpc
abbrev pub is_too_long : Result RpcRequest RpcFault → Bool
is_too_long (Err fault.TooLong) = true
is_too_long result = false

abbrev pub is_unknown : Result RpcRequest RpcFault → Bool
is_unknown (Err fault.UnknownVerb) = true
is_unknown result = false

-- how many bytes a reply may hold of what is read: the count asked for, or what a message of the size agreed holds
abbrev pub effective : ℕ → Option ℕ → ℕ
effective count None = 0
effective count (Some msize) = min count (msize - 24)

-- what a read of a file of lines finds
abbrev pub line_found : List Deed → Call → ℕ → Node → Found
line_found done call count node = found (effective count (msize_of done call.conn)) (lines_in done node)

abbrev pub finds_none : Found → Bool
finds_none Nothing = true
finds_none TooLong = false
finds_none (First line) = false

abbrev pub finds_too_long : Found → Bool
finds_too_long TooLong = true
finds_too_long Nothing = false
finds_too_long (First line) = false

-- the conversation that waits for a reply that is written to a file of questions
abbrev pub replier : List Deed → Option PromptKind → Option Reply → Option ℕ
replier done (Some kind) (Some reply) = asker_of reply.tag (prompts_of done kind)
replier done kind reply = None

-- a test, and the text that refuses by it: of a list of them the first that holds decides
abbrev pub Test : Type 0
Test = Rule (List ℕ)

-- ---- the tests, by type

-- a fault of the fid first, then the tests
abbrev pub fid_first : Option FidFault → List Test → Option (List ℕ)
fid_first fault tests = option_or (option_map fault_text fault) (first_told tests)

-- the offset of a read of a directory is neither 0 nor where the latest read of the fid ended
abbrev pub is_elsewhere : Node → ℕ → ℕ → Bool
is_elsewhere node next offset = is_directory node && is_some (dir_fault next offset)

-- what refuses a request, if anything does
unfoldable pub refusal : List Deed → Call → TBody → Option (List ℕ)
refusal done call (t.Version msize version) = first_told ((nat_lt msize least_msize, codes "msize too small") ∷ [])
refusal done call (t.Auth afid uname aname) = Some (codes "authentication not required")
refusal done call (t.Attach fid afid uname aname) =
    option_or (first_told ((not (afid == nofid), codes "bad afid") ∷ []))
    (option_map fault_text (attach_fault (fid_of done call.conn fid) (held_by done call.conn)))
refusal done call (t.Flush oldtag) = None
refusal done call (t.Walk fid newfid wname) =
    option_map fault_text
    (walk_fault (fid_of done call.conn fid) (fid_of done call.conn newfid) (fid == newfid)
    (held_by done call.conn) wname)
refusal done call (t.Open fid mode) =
    let node = node_of (fid_of done call.conn fid) in
    fid_first (open_fault (fid_of done call.conn fid) mode) (
    (is_exclusive node && is_some (holder_of done node), codes "exclusive use file already open")
    ∷ (is_rpc node && not (nat_lt (length (speakers done)) most_talks), codes "too many conversations")
    ∷ [])
refusal done call (t.Create fid name perm mode) =
    fid_first (fid_fault (fid_of done call.conn fid)) ((true, codes "permission denied") ∷ [])
refusal done call (t.Read fid offset count) =
    let node = node_of (fid_of done call.conn fid) in
    fid_first (fid_fault (fid_of done call.conn fid)) (
    (not (is_open (fid_of done call.conn fid)), codes "not open")
    ∷ (not (lets_read (mode_of (fid_of done call.conn fid))), codes "not open for reading")
    ∷ (is_elsewhere node (next_of done call.conn fid) offset, codes "bad directory offset")
    ∷ (is_rpc node && waits_for done call.conn fid, codes "rpc busy")
    ∷ (is_rpc node && is_resting (phase_of done call.conn fid), codes "no rpc pending")
    ∷ (
      is_rpc node && (not (has_answer (phase_of done call.conn fid))
          && waits_enough done call.conn),
      codes "too many waiting",
    )
    ∷ (
      is_line_file node &&
          (finds_none (line_found done call count node) && waits_enough done call.conn),
      codes "too many waiting",
    )
    ∷ (finds_too_long (line_found done call count node), codes "read too small")
    ∷ [])
refusal done call (t.Write fid offset content) =
    fid_first (fid_fault (fid_of done call.conn fid)) (
    (not (is_open (fid_of done call.conn fid)), codes "not open")
    ∷ (not (lets_write (mode_of (fid_of done call.conn fid))), codes "not open for writing")
    ∷ (is_rpc (node_of (fid_of done call.conn fid)) && not (is_resting (phase_of done call.conn fid)), codes "rpc busy")
    ∷ (is_rpc (node_of (fid_of done call.conn fid)) && is_too_long (rpc.request_of content), codes "rpc too long")
    ∷ (is_rpc (node_of (fid_of done call.conn fid)) && is_unknown (rpc.request_of content), codes "unknown rpc verb")
    ∷ (
      is_some (kind_at (node_of (fid_of done call.conn fid)))
          && not (is_some (prompt.reply_of content)),
      codes "bad reply",
    )
    ∷ (
      is_some (kind_at (node_of (fid_of done call.conn fid)))
          && not (is_some (replier done (kind_at (node_of (fid_of done call.conn fid)))
          (prompt.reply_of content))),
      codes "unknown tag",
    )
    ∷ [])
refusal done call (t.Clunk fid) = fid_first (fid_fault (fid_of done call.conn fid)) []
refusal done call (t.Remove fid) = fid_first (fid_fault (fid_of done call.conn fid)) []
refusal done call (t.Stat fid) = fid_first (fid_fault (fid_of done call.conn fid)) []
refusal done call (t.Wstat fid stat) =
    fid_first (fid_fault (fid_of done call.conn fid)) ((true, codes "permission denied") ∷ [])

-- ---- what a request does where nothing refuses it

-- the largest message that is agreed, if the version is known
abbrev pub agreed : ℕ → List ℕ → Option ℕ
agreed msize version = if is_known version then Some (min msize most_msize) else None

-- a walk does something where all of its names are there
abbrev pub walking : ℕ → ℕ → Option Node → List Deed → List Deed
walking conn newfid None done = done
walking conn newfid (Some node) done = OfFids conn (Walked newfid node) ∷ done

-- a read of ctl from 0 fixes its text, and one of a directory where the next may begin
abbrev pub reading : List Deed → ℕ → ℕ → ℕ → ℕ → Node → List Deed
reading done conn fid offset count Root = OfFids conn (Browsed fid (dir_end Root offset count)) ∷ done
reading done conn fid offset count Factotum = OfFids conn (Browsed fid (dir_end Factotum offset count)) ∷ done
reading done conn fid offset count Ctl = if offset == 0 then OfFids conn (Listed fid) ∷ done else done
reading done conn fid offset count node = done

-- a read of rpc carries out the request that is there
abbrev pub carrying_out : ℕ → List ℕ → Phase → List Deed → List Deed
carrying_out conv word (Waiting request) done = met conv (calls.CarriedOut word) done
carrying_out conv word phase done = done

abbrev pub carried : ℕ → List ℕ → List Deed → List Deed
carried conv word done = carrying_out conv word (standing_of done conv).phase done

-- the answer, if one is there, is read, and else the read waits for it
abbrev pub reading_answer : Call → ℕ → ℕ → ℕ → Phase → List Deed → List Deed
reading_answer call conv fid count (Kept answer) done = then_took conv count answer done
reading_answer call conv fid count phase done = OfReplies call.conn (Awaited call.tag fid count) ∷ done

abbrev pub reading_talk : Call → ℕ → ℕ → Option ℕ → List Deed → List Deed
reading_talk call fid count None done = done
reading_talk call fid count (Some conv) done = reading_answer call conv fid count
    (standing_of (carried conv call.word done) conv).phase (carried conv call.word done)

-- the first line, if one is there, is read, and else the read waits for it
abbrev pub reading_line : Call → ℕ → ℕ → Node → Found → List Deed → List Deed
reading_line call fid count node Nothing done = OfReplies call.conn (Awaited call.tag fid count) ∷ done
reading_line call fid count node TooLong done = done
reading_line call fid count node (First line) done = line_read node done

-- a read of a file
abbrev pub reading_file : List Deed → Call → ℕ → ℕ → ℕ → Node → List Deed
reading_file done call fid offset count node =
    if is_rpc node then reading_talk call fid count (conv_of done call.conn fid) done
    else if is_line_file node then reading_line call fid count node (found count (lines_in done node)) done
    else reading done call.conn fid offset count node

-- a request is written on rpc
abbrev pub stored : Option ℕ → Result RpcRequest RpcFault → List Deed → List Deed
stored (Some conv) (Ok request) done = OfTalk conv (calls.Stored request) ∷ done
stored conv result done = done

-- what a line of ctl does that is carried out
abbrev pub line_deed : CtlLine → KeyDeed
line_deed (OnKeys edit) = Edited edit
line_deed Debug = Switched

-- the deeds after such lines, one a line
abbrev pub lines_done : ℕ → List CtlLine → List Deed → List Deed
lines_done conn [] done = done
lines_done conn (said ∷ more) done = lines_done conn more (OfKeys conn (line_deed said) ∷ done)

-- what a conversation meets by a reply to a question of a kind
abbrev pub said_by : PromptKind → Bool → calls.Call
said_by k.Confirm agrees = calls.Consented agrees
said_by k.Needkey agrees = calls.KeyTold

-- a reply is written to a file of questions: its question is forgotten, and who asked it goes on
abbrev pub replying : Option PromptKind → Option Reply → List Deed → List Deed
replying (Some kind) (Some reply) done = resumed (asker_of reply.tag (prompts_of done kind)) (said_by kind reply.agrees)
    (OfPrompts kind (side.Replied reply.tag) ∷ done)
replying kind reply done = done

-- a write of a file
abbrev pub writing : List Deed → Call → ℕ → List ℕ → Node → List Deed
writing done call fid content node =
    if is_rpc node then stored (conv_of done call.conn fid) (rpc.request_of content) done
    else if is_some (kind_at node) then replying (kind_at node) (prompt.reply_of content) done
    else lines_done call.conn (carried_out (keys_of done) (lines_of content)) done

-- the deeds after it, but for its reply
unfoldable pub after : List Deed → Call → TBody → List Deed
after done call (t.Version msize version) = given_up_by (OfFids call.conn (Versioned (agreed msize version))) done
after done call (t.Attach fid afid uname aname) = OfFids call.conn (Attached fid) ∷ done
after done call (t.Flush oldtag) = OfReplies call.conn (Flushed oldtag) ∷ done
after done call (t.Walk fid newfid wname) =
    walking call.conn newfid (lead_to (node_of (fid_of done call.conn fid)) wname) done
after done call (t.Open fid mode) = OfFids call.conn (Opened fid mode) ∷ done
after done call (t.Read fid offset count) =
    reading_file done call fid offset (effective count (msize_of done call.conn)) (node_of (fid_of done call.conn fid))
after done call (t.Write fid offset content) = writing done call fid content (node_of (fid_of done call.conn fid))
after done call (t.Clunk fid) = given_up_by (OfFids call.conn (Clunked fid)) done
after done call (t.Remove fid) = given_up_by (OfFids call.conn (Clunked fid)) done
after done call body = done

-- ---- what is replied where nothing refuses it

-- the text that a read of ctl finds: the list of this moment from 0 on, else the text that the fid has
abbrev pub ctl_text : List Deed → ℕ → ℕ → ℕ → List ℕ
ctl_text done conn fid offset = if offset == 0 then list_text (keys_of done) else text_of done conn fid

-- the protocols
abbrev pub proto_text : List ℕ
proto_text = codes "apop\ncram\np9any\np9sk1\n"

-- at most so many bytes of a text from an offset on
abbrev pub piece : ℕ → ℕ → List ℕ → List ℕ
piece offset count text = take count (drop offset text)

-- what a read gives
abbrev pub content_of : List Deed → ℕ → ℕ → ℕ → ℕ → Node → List ℕ
content_of done conn fid offset count Root = dir_bytes Root offset count
content_of done conn fid offset count Factotum = dir_bytes Factotum offset count
content_of done conn fid offset count Ctl = piece offset count (ctl_text done conn fid offset)
content_of done conn fid offset count Proto = piece offset count proto_text
content_of done conn fid offset count node = []

-- a write of ctl is answered by the number of its bytes, or by the first line that was refused
abbrev pub written : List ℕ → Option (List ℕ) → RBody
written content None = r.Write (length content)
written content (Some text) = r.Error text

-- a read of rpc is replied to where an answer is there, and else it waits
abbrev pub answer_read : ℕ → Phase → Option RBody
answer_read count (Kept answer) = Some (told count answer)
answer_read count phase = None

abbrev pub talk_read : List ℕ → ℕ → Option ℕ → List Deed → Option RBody
talk_read word count None done = None
talk_read word count (Some conv) done = answer_read count (standing_of (carried conv word done) conv).phase

-- a read of a file of lines is replied to where a line is there, and else it waits
abbrev pub line_read_reply : Found → Option RBody
line_read_reply Nothing = None
line_read_reply TooLong = Some too_small
line_read_reply (First line) = Some (r.Read line)

abbrev pub read_reply : List Deed → Call → ℕ → ℕ → ℕ → Node → Option RBody
read_reply done call fid offset count node =
    if is_rpc node then talk_read call.word count (conv_of done call.conn fid) done
    else if is_line_file node then line_read_reply (found count (lines_in done node))
    else Some (r.Read (content_of done call.conn fid offset count node))

abbrev pub write_reply : List Deed → List ℕ → Node → RBody
write_reply done content node =
    if is_rpc node || is_some (kind_at node) then r.Write (length content)
    else written content (lines_fault (keys_of done) (lines_of content))

-- none where it waits for its reply
unfoldable pub reply_of : List Deed → Call → TBody → Option RBody
reply_of done call (t.Version msize version) =
    Some (r.Version (min msize most_msize) (if is_known version then codes "9P2000" else codes "unknown"))
reply_of done call (t.Auth afid uname aname) = Some (r.Error (codes "authentication not required"))
reply_of done call (t.Attach fid afid uname aname) = Some (r.Attach (qid_of Root))
reply_of done call (t.Flush oldtag) = Some r.Flush
reply_of done call (t.Walk fid newfid wname) =
    Some (r.Walk (map qid_of (visited (node_of (fid_of done call.conn fid)) wname)))
reply_of done call (t.Open fid mode) = Some (r.Open (qid_of (node_of (fid_of done call.conn fid))) 0)
reply_of done call (t.Create fid name perm mode) = Some (r.Error (codes "permission denied"))
reply_of done call (t.Read fid offset count) =
    read_reply done call fid offset (effective count (msize_of done call.conn)) (node_of (fid_of done call.conn fid))
reply_of done call (t.Write fid offset content) = Some (write_reply done content (node_of (fid_of done call.conn fid)))
reply_of done call (t.Clunk fid) = Some r.Clunk
reply_of done call (t.Remove fid) = Some (r.Error (codes "permission denied"))
reply_of done call (t.Stat fid) = Some (r.Stat (record_of (node_of (fid_of done call.conn fid))))
reply_of done call (t.Wstat fid stat) = Some (r.Error (codes "permission denied"))

-- ---- frames

-- a version is agreed and the frame is longer than its msize
abbrev pub is_over : Option ℕ → List ℕ → Bool
is_over None frame = false
is_over (Some msize) frame = nat_lt msize (length frame)

-- a request that is answered before a version is agreed, and whatever its tag is
abbrev pub comes_first : TBody → Bool
comes_first (t.Version msize version) = true
comes_first (t.Flush oldtag) = true
comes_first body = false

-- a request that needs a version comes where none is agreed
abbrev pub lacks_version : List Deed → Call → TBody → Bool
lacks_version done call body = not (comes_first body) && not (has_version done call.conn)

-- a request comes under the tag of a read of its connection that waits
abbrev pub repeats_tag : List Deed → Call → TBody → Bool
repeats_tag done call body = not (comes_first body) && waits_under done call.conn call.tag

-- the request, where no test refuses it, or the text of the first one that does: a version has to be agreed, its tag
-- has to be free, and then come the tests of its type
abbrev pub granted_body : List Deed → Call → TBody → Result TBody (List ℕ)
granted_body done call body =
    if lacks_version done call body then Err (codes "no version")
    else if repeats_tag done call body then Err (codes "duplicate tag")
    else elim (refusal done call body) [ Some text ↦ Err text | None ↦ Ok body ]

-- the request that a frame is, where nothing refuses it, or the text that does
unfoldable pub granted : List Deed → Call → List ℕ → Result TBody (List ℕ)
granted done call frame =
    if is_over (msize_of done call.conn) frame then Err (codes "message over msize")
    else elim (request_of frame) [ None ↦ Err (codes "bad message") | Some m ↦ granted_body done call m.body ]

-- the deeds after a frame, but for its reply: a request that is refused changes nothing
abbrev pub after_granted : List Deed → Call → Result TBody (List ℕ) → List Deed
after_granted done call (Err text) = done
after_granted done call (Ok body) = after done call body

unfoldable pub after_frame : List Deed → Call → List ℕ → List Deed
after_frame done call frame = after_granted done call (granted done call frame)

-- the reply to a frame; none where it waits for it
abbrev pub body_for : List Deed → Call → Result TBody (List ℕ) → Option RBody
body_for done call (Err text) = Some (r.Error text)
body_for done call (Ok body) = reply_of done call body

unfoldable pub body_to : List Deed → Call → List ℕ → Option RBody
body_to done call frame = body_for done call (granted done call frame)

-- the deeds after a frame: what it does, and then its reply, if it has one
abbrev pub replied : Call → Option RBody → List Deed → List Deed
replied call None done = done
replied call (Some body) done = OfReplies call.conn (Answered call.tag body) ∷ done

abbrev pub answered : List Deed → Call → List ℕ → List Deed
answered done call frame = replied call (body_to done call frame) (after_frame done call frame)

-- the tag of a frame
abbrev pub tag_in : Option ℕ → ℕ
tag_in None = 0
tag_in (Some tag) = tag

abbrev pub tag_of : List ℕ → ℕ
tag_of frame = tag_in (value_of (number w16 frame 5))

-- what a frame carries that comes on a connection with a word
abbrev pub call_of : ℕ → List ℕ → List ℕ → Call
call_of conn frame word = record { conn = conn; tag = tag_of frame; word = word }
