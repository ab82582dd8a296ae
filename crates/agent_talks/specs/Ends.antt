-- Of the code alone: what is made ahead of the line by which the end of a conversation is told.
use Rattle.std.specs.Prelude.{◌≡◌, ℕ, List}
use Rattle.attr_tuples.specs.declared.attr.Attr.{Attr}
use Rattle.talks.specs.Lines.{done_front, error_front}
use Rattle.agent_talks.specs.declared.end_line.EndLine.{EndLine}

-- the fronts of the lines that tell the end of a conversation, with their room
pub record EndsFor (conv : ℕ) (template : List Attr) (line : EndLine) : Type 0 where
  pub done : line.done.text ≡ done_front conv template
  pub error : line.error.text ≡ error_front conv
  pub done_left : line.done.left ≡ 64
  pub error_left : line.error.left ≡ 64
