-- A history without its secrets, entry by entry. The words that were drawn are left out, how many bytes a read of rpc
-- may hold, and what requests carry that may hold secrets: of a line of ctl the verb and the public text are kept, of
-- a request of rpc the verb, and of a start the public text of its template. Of a read of rpc and of an answer of the
-- authentication server is kept what the request came to: by which templates keys are searched for, or how its answer
-- begins, and whom it accepted or why it broke. After factotum(4) of the Plan 9 manual (ctl, rpc, confirm, needkey,
-- log).
use Rattle.std.specs.Prelude.{ℕ, List, [], ◌∷◌, map, Option, Some, None, Result, Ok, Err, is_some, codes, if◌then◌else◌}
use Rattle.nine.specs.declared.message.TMsg.{TMsg}
use Rattle.nine.specs.declared.message.TBody.{TBody}
use Rattle.nine.specs.declared.message.TBody.TheVariants as t
use Rattle.nine.specs.Decoding.{request_of}
use Rattle.attr_tuples.specs.Printing.{public_text}
use Rattle.file_tree.specs.declared.tree.Node.{Node}
use Rattle.file_tree.specs.Calls.{node_of}
use Rattle.key_lists.specs.Edits.{Add, Delete}
use Rattle.key_lists.specs.CtlLines.{CtlLine, OnKeys, Debug, carried_out, lines_fault, lines_of}
use Rattle.talks.specs.Requests as rpc
use Rattle.talks.specs.Calls.{Heard}
use Rattle.talks.specs.Standings.{standing}
use Rattle.agent_history.specs.declared.event.Event.{Event}
use Rattle.agent_history.specs.declared.event.Event.TheVariants.{Request, Answer}
use Rattle.agent_history.specs.Deeds.{Deed, fid_of, keys_of, msize_of}
use Rattle.agent_history.specs.SideFiles.{kind_at}
use Rattle.agent_history.specs.Conversations.{asker, conv_of, standing_of, talk}
use Rattle.agent_history.specs.Requests.{Call, call_of, granted, is_over, is_rpc}
use Rattle.agent_history.specs.Histories.{History, deeds, entered}
use Rattle.agent_laws.specs.Shown.{ShownRequest, ShownResult, came_by_read, came_to, shown_content}

-- a line of ctl: its verb, and its public text
pub data ShownLine : Type 0 where
  AddsKey : (text : List ℕ) → ShownLine
  DeletesKeys : (text : List ℕ) → ShownLine
  SwitchesLog : ShownLine

abbrev pub shown_line : CtlLine → ShownLine
shown_line (OnKeys (Add key)) = AddsKey (public_text key)
shown_line (OnKeys (Delete template)) = DeletesKeys (public_text template)
shown_line Debug = SwitchesLog

pub data Redacted : Type 0 where
  -- an event that stays as it is
  Stays : (event : Event) → Redacted
  -- a request that is longer than what was agreed, or is none, and the text that tells it
  Unread : (conn : ℕ) (text : List ℕ) → Redacted
  -- a request that stays as it is, but for its word
  Came : (conn : ℕ) (frame : List ℕ) → Redacted
  -- a write of ctl: its lines that were carried out, and the text that refused it or the next of them
  CtlWritten : (conn tag fid offset : ℕ) (lines : List ShownLine) (refusal : Option (List ℕ)) → Redacted
  -- a write of rpc: its request, or the text that refused it
  RpcWritten : (conn tag fid offset : ℕ) (request : Result (Option ShownRequest) (List ℕ)) → Redacted
  -- a read of rpc: what the request came to that it carried out, if it did, or the text that refused it
  RpcRead : (conn tag fid offset : ℕ) (result : Result (Option ShownResult) (List ℕ)) → Redacted
  -- an answer of the authentication server: the question, and what the request came to that waited for it, if one did
  ServerAnswered : (call : ℕ) (result : Option ShownResult) → Redacted

-- ---- requests; what was done before one is taken with its connection opened

abbrev pub ctl_redaction : List Deed → Call → ℕ → ℕ → List ℕ → Result TBody (List ℕ) → Redacted
ctl_redaction done call fid offset content (Err text) = CtlWritten call.conn call.tag fid offset [] (Some text)
ctl_redaction done call fid offset content (Ok body) = CtlWritten call.conn call.tag fid offset
    (map shown_line (carried_out (keys_of done) (lines_of content))) (lines_fault (keys_of done) (lines_of content))

abbrev pub rpc_redaction : Call → ℕ → ℕ → List ℕ → Result TBody (List ℕ) → Redacted
rpc_redaction call fid offset content (Err text) = RpcWritten call.conn call.tag fid offset (Err text)
rpc_redaction call fid offset content (Ok body) =
    RpcWritten call.conn call.tag fid offset (Ok (shown_content (rpc.request_of content)))

-- what the request comes to that a read of rpc carries out, if it does
abbrev pub result_in : List Deed → Option ℕ → List ℕ → Option ShownResult
result_in done None word = None
result_in done (Some conv) word = came_by_read (standing_of done conv) word (standing_of done conv).phase

abbrev pub rpc_read_redaction : List Deed → Call → ℕ → ℕ → Result TBody (List ℕ) → Redacted
rpc_read_redaction done call fid offset (Err text) = RpcRead call.conn call.tag fid offset (Err text)
rpc_read_redaction done call fid offset (Ok body) =
    RpcRead call.conn call.tag fid offset (Ok (result_in done (conv_of done call.conn fid) call.word))

-- a write, and a read, of a file; a write of a file that can't be written is refused, and its content is left out
abbrev pub write_redaction : List Deed → Call → List ℕ → ℕ → ℕ → List ℕ → Node → Redacted
write_redaction done call frame fid offset content node =
    if is_rpc node then rpc_redaction call fid offset content (granted done call frame)
    else if is_some (kind_at node) then Came call.conn frame
    else ctl_redaction done call fid offset content (granted done call frame)

abbrev pub read_redaction : List Deed → Call → List ℕ → ℕ → ℕ → Node → Redacted
read_redaction done call frame fid offset node =
    if is_rpc node then rpc_read_redaction done call fid offset (granted done call frame)
    else Came call.conn frame

abbrev pub body_redaction : List Deed → Call → List ℕ → TBody → Redacted
body_redaction done call frame (t.Read fid offset count) =
    read_redaction done call frame fid offset (node_of (fid_of done call.conn fid))
body_redaction done call frame (t.Write fid offset content) =
    write_redaction done call frame fid offset content (node_of (fid_of done call.conn fid))
body_redaction done call frame body = Came call.conn frame

abbrev pub message_redaction : List Deed → Call → List ℕ → Option TMsg → Redacted
message_redaction done call frame None = Unread call.conn (codes "bad message")
message_redaction done call frame (Some m) = body_redaction done call frame m.body

abbrev pub request_redaction : List Deed → Call → List ℕ → Redacted
request_redaction done call frame =
    if is_over (msize_of done call.conn) frame then Unread call.conn (codes "message over msize")
    else message_redaction done call frame (request_of frame)

-- ---- histories

-- what the request comes to that waits for the answer of the authentication server, if one does
abbrev pub answer_result : List Deed → Option ℕ → List ℕ → Option ShownResult
answer_result done None bytes = None
answer_result done (Some conv) bytes = Some (came_to (standing (Heard bytes ∷ talk done conv)))

-- an event behind some deeds
abbrev pub redaction : List Deed → Event → Redacted
redaction done (Request at frame word) = request_redaction (entered at done) (call_of at frame word) frame
redaction done (Answer call bytes) = ServerAnswered call (answer_result done (asker done call) bytes)
redaction done event = Stays event

abbrev pub redact : History → List Redacted
redact [] = []
redact (event ∷ before) = redaction (deeds before) event ∷ redact before
