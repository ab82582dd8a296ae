-- What replies tell: why a request was refused, and what was read.
use Rattle.std.specs.Prelude.{ℕ, List, length, drop, slice_index, nat_lt, not, ◌||◌, ◌==◌, codes, Bool, is_some, Option, Some, None, if◌then◌else◌}
use Rattle.std.specs.List.{list_any}
use Rattle.nine.specs.declared.message.RBody.{RBody}
use Rattle.nine.specs.declared.message.RBody.TheVariants as r
use Rattle.agent_turns.specs.declared.events.File.{File}
use Rattle.agent_turns.specs.declared.events.File.TheVariants.{Ctl, Rpc}

abbrev pub error_of : RBody → Option (List ℕ)
error_of (r.Error text) = Some text
error_of body = None

abbrev pub content_of : RBody → Option (List ℕ)
content_of (r.Read content) = Some content
content_of body = None

-- the files by which a node is driven
abbrev pub file_name : File → List ℕ
file_name Ctl = codes "ctl"
file_name Rpc = codes "rpc"

-- what stands behind so many bytes of a frame whose type, its fifth byte, is this
unfoldable pub text_at : ℕ → ℕ → List ℕ → Option (List ℕ)
text_at kind skip frame =
    if nat_lt (length frame) skip || not (slice_index frame 4 == kind) then None
    else Some (drop skip frame)

-- some frame refuses
abbrev pub has_error : List (List ℕ) → Bool
has_error frames = list_any (λ frame. is_some (text_at 107 9 frame)) frames
