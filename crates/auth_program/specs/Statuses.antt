-- The statuses: the number that the process ends with, and the line for standard error.
use Rattle.std.specs.Prelude.{ℕ, List, [], ◌∷◌, ◌++◌, Bool, true, false, codes}
use Rattle.std.specs.Fmt.{decimal}
use Rattle.auth_server.specs.declared.serve.AuthEnd.{AuthEnd}
use Rattle.auth_server.specs.declared.serve.AuthEnd.TheVariants as ends
use Rattle.auth_program.specs.declared.cause.ScriptCause.{ScriptCause}
use Rattle.auth_program.specs.declared.cause.ScriptCause.TheVariants.{BadLine, UnknownNode, UnknownConv, NoSuchMessage}
use Rattle.auth_program.specs.declared.status.Status.{Status}
use Rattle.auth_program.specs.declared.status.Status.TheVariants.{Fine, Usage, ReadFault, WriteFault, WordFault, BadFrame, Torn, BadScript, BadTables, AsEnded, NoMemory, Flood}

abbrev pub status_number : Status → ℕ
status_number Fine = 0
status_number Usage = 1
status_number ReadFault = 2
status_number WriteFault = 3
status_number WordFault = 4
status_number (BadFrame at size) = 5
status_number (Torn at) = 6
status_number (BadScript line cause) = 7
status_number (BadTables speaks line) = 8
status_number (AsEnded end) = 9
status_number NoMemory = 10
status_number (Flood limit) = 11

-- the lines that tell numbers, in decimal
abbrev pub bad_frame_text : ℕ → ℕ → List ℕ
bad_frame_text at size =
    codes "factotum: bad frame size " ++ (decimal size ++ (codes " at " ++ (decimal at ++ 10 ∷ [])))

abbrev pub torn_text : ℕ → List ℕ
torn_text at = codes "factotum: input ends inside the message at " ++ (decimal at ++ 10 ∷ [])

abbrev pub flood_text : ℕ → List ℕ
flood_text limit = codes "factotum: input over " ++ (decimal limit ++ (codes " bytes" ++ 10 ∷ []))

-- the line of a script's first line that was refused, and why it was
abbrev pub cause_text : ScriptCause → List ℕ
cause_text BadLine = codes "bad line"
cause_text UnknownNode = codes "unknown node"
cause_text UnknownConv = codes "unknown conversation"
cause_text NoSuchMessage = codes "no such message"

abbrev pub bad_script_text : ℕ → ScriptCause → List ℕ
bad_script_text line cause =
    codes "factotum: script line " ++ (decimal line ++ (codes ": " ++ (cause_text cause ++ 10 ∷ [])))

-- the line of a table's first bad line: of who speaks for whom, or of the keys
abbrev pub bad_table_text : Bool → ℕ → List ℕ
bad_table_text true line = codes "factotum: speaks line " ++ (decimal line ++ 10 ∷ [])
bad_table_text false line = codes "factotum: keys line " ++ (decimal line ++ 10 ∷ [])

abbrev pub unknown_text : ℕ → ℕ → List ℕ
unknown_text at kind = codes "factotum: unknown request " ++ (decimal kind ++ (codes " at " ++ (decimal at ++ 10 ∷ [])))

-- the line of a client's end, which has a status of its own where it is one of these two
abbrev pub ended_text : AuthEnd → List ℕ
ended_text (ends.UnknownType at kind) = unknown_text at kind
ended_text ends.TooManyWrong = codes "factotum: too many wrong answers" ++ 10 ∷ []
ended_text end = []

abbrev pub is_printed_end : AuthEnd → Bool
is_printed_end (ends.UnknownType at kind) = true
is_printed_end ends.TooManyWrong = true
is_printed_end end = false

-- the statuses that a command ends with: an end of a client is one of those two
abbrev pub is_printable : Status → Bool
is_printable (AsEnded end) = is_printed_end end
is_printable status = true

abbrev pub status_text : Status → List ℕ
status_text Fine = []
status_text Usage = codes "factotum: usage" ++ 10 ∷ []
status_text ReadFault = codes "factotum: read fault" ++ 10 ∷ []
status_text WriteFault = codes "factotum: write fault" ++ 10 ∷ []
status_text WordFault = codes "factotum: word fault" ++ 10 ∷ []
status_text (BadFrame at size) = bad_frame_text at size
status_text (Torn at) = torn_text at
status_text (BadScript line cause) = bad_script_text line cause
status_text (BadTables speaks line) = bad_table_text speaks line
status_text (AsEnded end) = ended_text end
status_text NoMemory = codes "factotum: out of memory" ++ 10 ∷ []
status_text (Flood limit) = flood_text limit
