-- The keys file of a file server that asks an agent, and the agent to which its keys are given: each line of it that
-- isn't empty is written to ctl on connection 0 of a new agent, one after the other, up to the first that is refused.
-- After factotum(4) of the Plan 9 manual, whose ctl has these lines; that a file has them alone is this project's.
use Rattle.std.specs.Prelude.{◌≡◌, ℕ, ◌+◌, List, [], ◌∷◌, Bool, ◌&&◌, ◌||◌, ◌==◌, nat_le, length, take, Option, None, Some, codes, if◌then◌else◌}
use Rattle.std.specs.Str.{bytes_eq}
use Rattle.attr_tuples.specs.Cutting.{text_lines}
use Rattle.agent_history.specs.Histories.{History}
use Rattle.auth_program.specs.Files.{FloodsFile, ReadsFile, ReadsPart, most_file}
use Rattle.door_ports.specs.Exchanges.{asked, is_done, prepared, reply, writes}
use Rattle.attach_program.specs.declared.status.AttachStatus.{AttachStatus}
use Rattle.attach_program.specs.declared.status.AttachStatus.TheVariants.{ReadFault, BadKeys, NoMemory, Flood}

-- how many bytes a line may have
abbrev pub most_line : ℕ
most_line = 4096

-- a line that may be a key's
abbrev pub is_key_line : List ℕ → Bool
is_key_line line = bytes_eq (take 4 line) (codes "key ") && nat_le (length line) most_line

-- a new agent, of which ctl is open on connection 0
abbrev pub new_agent : History
new_agent = prepared 0 []

-- a line is given to an agent: written to its ctl, but for an empty one
abbrev pub is_empty : List ℕ → Bool
is_empty line = length line == 0

abbrev pub with_line : List ℕ → History → History
with_line line H = if is_empty line then H else asked 0 (writes 1 line) H

-- it is empty; or it may be a key's, and the agent takes it
abbrev pub is_taken : List ℕ → History → Bool
is_taken line H = is_empty line || (is_key_line line && is_done (reply 0 (writes 1 line) H))

-- an agent that was given lines
abbrev pub with_lines : History → List (List ℕ) → History
with_lines H [] = H
with_lines H (line ∷ lines) = with_lines (with_line line H) lines

-- the number of the first line that isn't taken, where the first has this number
abbrev pub first_bad : ℕ → History → List (List ℕ) → Option ℕ
first_bad number H [] = None
first_bad number H (line ∷ lines) =
    if is_taken line H then first_bad (number + 1) (with_line line H) lines else Some number

-- the first bad line of a file, counted from 1, and the agent that was given a file
abbrev pub bad_line : List ℕ → Option ℕ
bad_line file = first_bad 1 new_agent (text_lines file)

abbrev pub agent_of : List ℕ → History
agent_of file = with_lines new_agent (text_lines file)

-- ---- how reading the file ends

-- it was read whole, it has no bad line, and this is the history of the agent that was given it
pub record KnowsKeys (before now : Option (List ℕ)) (keys : History) : Type 0 where
  pub file : List ℕ
  pub read : ReadsFile before now file
  pub good : bad_line file ≡ None
  pub is : keys ≡ agent_of file

-- this is its first bad line
pub record MeetsBadLine (line : ℕ) (before now : Option (List ℕ)) : Type 0 where
  pub file : List ℕ
  pub read : ReadsFile before now file
  pub bad : bad_line file ≡ Some line

-- why there is no agent that was given it, by the status
abbrev pub KeysEnd : AttachStatus → Option (List ℕ) → Option (List ℕ) → Type 0
KeysEnd ReadFault before now = ReadsPart before now
KeysEnd (BadKeys line) before now = MeetsBadLine line before now
KeysEnd NoMemory before now = Unit {0}
KeysEnd (Flood limit) before now = (limit ≡ most_file) × FloodsFile before now
KeysEnd status before now = ⊥
