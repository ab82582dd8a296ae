-- The statuses of a change of a password: the number that the process ends with, and the line for standard error.
use Rattle.std.specs.Prelude.{ℕ, List, [], ◌∷◌, ◌++◌, codes}
use Rattle.std.specs.Fmt.{decimal}
use Rattle.pass_program.specs.declared.status.PassStatus.{PassStatus}
use Rattle.pass_program.specs.declared.status.PassStatus.TheVariants.{Fine, Usage, ReadFault, WriteFault, WordFault, Torn, BadTable, Refused, NoMemory, Flood}

abbrev pub status_number : PassStatus → ℕ
status_number (Fine changed) = 0
status_number Usage = 1
status_number ReadFault = 2
status_number WriteFault = 3
status_number WordFault = 4
status_number (Torn at) = 6
status_number (BadTable line) = 8
status_number Refused = 9
status_number NoMemory = 10
status_number (Flood limit) = 11

-- the lines that tell numbers, in decimal
abbrev pub torn_text : ℕ → List ℕ
torn_text at = codes "pass_change: input ends inside the message at " ++ (decimal at ++ 10 ∷ [])

abbrev pub bad_table_text : ℕ → List ℕ
bad_table_text line = codes "pass_change: keys line " ++ (decimal line ++ 10 ∷ [])

abbrev pub flood_text : ℕ → List ℕ
flood_text limit = codes "pass_change: keys over " ++ (decimal limit ++ (codes " bytes" ++ 10 ∷ []))

abbrev pub status_text : PassStatus → List ℕ
status_text (Fine changed) = []
status_text Usage = codes "pass_change: usage" ++ 10 ∷ []
status_text ReadFault = codes "pass_change: read fault" ++ 10 ∷ []
status_text WriteFault = codes "pass_change: write fault" ++ 10 ∷ []
status_text WordFault = codes "pass_change: word fault" ++ 10 ∷ []
status_text (Torn at) = torn_text at
status_text (BadTable line) = bad_table_text line
status_text Refused = codes "pass_change: refused" ++ 10 ∷ []
status_text NoMemory = codes "pass_change: out of memory" ++ 10 ∷ []
status_text (Flood limit) = flood_text limit
