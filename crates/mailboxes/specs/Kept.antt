-- What the code keeps, as the frames and the reads that it stands for.
use Rattle.std.specs.Prelude.{ℕ, List, [], ◌∷◌, Bool, Option, Some, None, option_map, if◌then◌else◌}
use Rattle.nine.specs.declared.message.RBody.TheVariants as r
use Rattle.nine.specs.Messages.{r_frame}
use Rattle.mailboxes.specs.declared.reply.Reply.{Reply}
use Rattle.mailboxes.specs.declared.reply.Reply.TheVariants as y
use Rattle.mailboxes.specs.declared.wait.Read.{Read}
use Rattle.mailboxes.specs.declared.wait.Wait.{Wait}
use Rattle.mailboxes.specs.Mails.{Pending, is_reader, read_of}
use Rattle.talks.specs.RpcAnswers.{answer_text}
use Rattle.talks.specs.declared.answer.RpcAnswer.{RpcAnswer}

-- the frame of an error
abbrev pub error_frame : List ℕ → ℕ → List ℕ
error_frame text tag = r_frame (record { tag = tag; body = r.Error text })

-- the frame by which an answer is told
abbrev pub answer_frame : RpcAnswer → ℕ → List ℕ
answer_frame answer tag = r_frame (record { tag = tag; body = r.Read (answer_text answer) })

-- the frame that hands out a line
abbrev pub line_frame : List ℕ → ℕ → List ℕ
line_frame line tag = r_frame (record { tag = tag; body = r.Read line })

-- the frame of a reply
abbrev pub reply_bytes : Reply → List ℕ
reply_bytes (y.Spelled bytes) = bytes
reply_bytes (y.Refused tag text) = error_frame text tag
reply_bytes (y.Answer tag answer) = answer_frame answer tag
reply_bytes (y.Line tag line) = line_frame line tag

abbrev pub pending_of : Wait → Pending
pending_of wait = record {
  tag = wait.tag;
  fid = wait.fid;
  count = wait.count;
  reply = option_map reply_bytes wait.reply;
}

-- the first read that is one of a fid and isn't settled
abbrev pub reader_in : ℕ → List Wait → Option Read
reader_in fid [] = None
reader_in fid (wait ∷ more) =
    if is_reader fid (pending_of wait) then Some (read_of (pending_of wait))
    else reader_in fid more

-- the place that is kept for one more
abbrev pub places : Bool → ℕ
places has_room = if has_room then 1 else 0
