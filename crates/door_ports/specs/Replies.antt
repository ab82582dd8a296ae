-- What a reply tells, read off its frame and off the answer to the take that put it out. It serves proofs alone.
use Rattle.std.specs.Prelude.{ℕ, List, length, drop, slice_index, nat_lt, not, ◌||◌, ◌==◌, Option, Some, None, if◌then◌else◌}
use Rattle.agent_history.specs.declared.event.StepAnswer.{StepAnswer}
use Rattle.agent_history.specs.declared.event.StepAnswer.TheVariants as a
use Rattle.door_ports.specs.declared.reply.Reply.{Reply}
use Rattle.door_ports.specs.declared.reply.Reply.TheVariants.{Gone, Silent, Refused, Read, Done}

-- what stands behind so many bytes of a frame whose type, its fifth byte, is this
unfoldable pub text_at : ℕ → ℕ → List ℕ → Option (List ℕ)
text_at kind skip frame =
    if nat_lt (length frame) skip || not (slice_index frame 4 == kind) then None
    else Some (drop skip frame)

-- by the text of a refusal and the content of a read
abbrev pub told_at : Option (List ℕ) → Option (List ℕ) → Reply
told_at (Some text) content = Refused text
told_at None (Some content) = Read content
told_at None None = Done

abbrev pub told_in : List ℕ → Reply
told_in frame = told_at (text_at 107 9 frame) (text_at 117 11 frame)

-- of a take that puts out none
abbrev pub silence_of : StepAnswer → Reply
silence_of a.Gone = Gone
silence_of answer = Silent
