-- What a read of a file of lines does, a write of a file of questions, and `debug` among the lines of ctl.
use Rattle.std.specs.Prelude.{ℕ, List, [], ◌∷◌, length, Bool, true, false, not, ◌&&◌, Option, Some, Result, codes, is_some}
use Rattle.wire_base.specs.Rules.{first_told}
use Rattle.nine.specs.declared.message.RBody.TheVariants as r
use Rattle.file_tree.specs.declared.tree.Node.{Node}
use Rattle.side_files.specs.declared.line.PromptKind.{PromptKind}
use Rattle.side_files.specs.declared.reply.Reply.{Reply as Answer}
use Rattle.side_files.specs.Lines.{Found}
use Rattle.side_files.specs.Replies as prompt
use Rattle.agent_history.specs.Deeds.{Deed, OfKeys, Switched}
use Rattle.agent_history.specs.Requests.{Call, finds_none, finds_too_long, line_read_reply, reading_line, replier, replying, waits_enough}
use Rattle.mailboxes.specs.declared.reply.Reply.{Reply}
use Rattle.agent_requests.specs.declared.shared.Shared.{Shared}
use Rattle.agent_requests.specs.Sharing.{Shares}
use Rattle.agent_requests.specs.declared.refused.Refused.{Refused}
use Rattle.agent_requests.specs.Connections.{Says, Told}

-- ---- reads

-- the tests of a read of a file of lines that is open for reading, by what it finds
abbrev pub line_refusal : List Deed → ℕ → Found → Option (List ℕ)
line_refusal done conn what = first_told (
    (finds_none what && waits_enough done conn, codes "too many waiting")
    ∷ (finds_too_long what, codes "read too small")
    ∷ [])

-- the line that is found was read, or the read waits for one
pub record LineServed (done : List Deed) (call : Call) (fid count : ℕ) (node : Node) (what : Found) (s : Shared)
    (reply : Option Reply) : Type 0 where
  pub shares : Shares (reading_line call fid count node what done) s
  pub said : Says call.tag (line_read_reply what) reply

abbrev pub LineTold : List Deed → Call → ℕ → ℕ → Node → Found → Shared → Result (Option Reply) Refused → Type 0
LineTold done call fid count node what s result =
    Told (line_refusal done call.conn what) (LineServed done call fid count node what s) result

-- ---- replies to questions

-- the tests of a write of a file of questions that is open for writing, by the reply that is written
abbrev pub reply_refusal : List Deed → PromptKind → Option Answer → Option (List ℕ)
reply_refusal done kind answer = first_told (
    (not (is_some answer), codes "bad reply")
    ∷ (not (is_some (replier done (Some kind) answer)), codes "unknown tag")
    ∷ [])

-- the question was replied to, and whoever asked it went on
pub record ReplyServed (done : List Deed) (call : Call) (kind : PromptKind) (content : List ℕ) (s : Shared)
    (reply : Option Reply) : Type 0 where
  pub shares : Shares (replying (Some kind) (prompt.reply_of content) done) s
  pub said : Says call.tag (Some (r.Write (length content))) reply

abbrev pub ReplyTold : List Deed → Call → PromptKind → List ℕ → Shared → Result (Option Reply) Refused → Type 0
ReplyTold done call kind content s result =
    Told (reply_refusal done kind (prompt.reply_of content)) (ReplyServed done call kind content s) result

-- ---- lines of ctl

-- the further lines of the log are switched on or off, or they are left
abbrev pub switching : Bool → ℕ → List Deed → List Deed
switching true conn done = OfKeys conn Switched ∷ done
switching false conn done = done
