-- The statuses of a file server that asks an agent: the number that the process ends with, and the line for standard
-- error. Both are this project's own.
use Rattle.std.specs.Prelude.{ℕ, List, [], ◌∷◌, ◌++◌, codes}
use Rattle.std.specs.Fmt.{decimal}
use Rattle.attach_program.specs.declared.status.AttachStatus.{AttachStatus}
use Rattle.attach_program.specs.declared.status.AttachStatus.TheVariants.{Fine, Usage, ReadFault, WriteFault, WordFault, BadFrame, Torn, BadKeys, NoMemory, Flood}

abbrev pub status_number : AttachStatus → ℕ
status_number Fine = 0
status_number Usage = 1
status_number ReadFault = 2
status_number WriteFault = 3
status_number WordFault = 4
status_number (BadFrame at size) = 5
status_number (Torn at) = 6
status_number (BadKeys line) = 8
status_number NoMemory = 10
status_number (Flood limit) = 11

-- the lines that tell numbers, in decimal
abbrev pub bad_frame_text : ℕ → ℕ → List ℕ
bad_frame_text at size =
    codes "auth_attach: bad frame size " ++ (decimal size ++ (codes " at " ++ (decimal at ++ 10 ∷ [])))

abbrev pub torn_text : ℕ → List ℕ
torn_text at = codes "auth_attach: input ends inside the message at " ++ (decimal at ++ 10 ∷ [])

abbrev pub bad_keys_text : ℕ → List ℕ
bad_keys_text line = codes "auth_attach: keys line " ++ (decimal line ++ 10 ∷ [])

abbrev pub flood_text : ℕ → List ℕ
flood_text limit = codes "auth_attach: input over " ++ (decimal limit ++ (codes " bytes" ++ 10 ∷ []))

abbrev pub status_text : AttachStatus → List ℕ
status_text Fine = []
status_text Usage = codes "auth_attach: usage" ++ 10 ∷ []
status_text ReadFault = codes "auth_attach: read fault" ++ 10 ∷ []
status_text WriteFault = codes "auth_attach: write fault" ++ 10 ∷ []
status_text WordFault = codes "auth_attach: word fault" ++ 10 ∷ []
status_text (BadFrame at size) = bad_frame_text at size
status_text (Torn at) = torn_text at
status_text (BadKeys line) = bad_keys_text line
status_text NoMemory = codes "auth_attach: out of memory" ++ 10 ∷ []
status_text (Flood limit) = flood_text limit
