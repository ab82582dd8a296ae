-- How the program ends: the number of the process, and the line for standard error.
use Rattle.std.specs.Prelude.{ℕ, List, [], ◌∷◌, ◌++◌, Bool, true, codes}
use Rattle.auth_server.specs.declared.listen.ListenEnd.{ListenEnd}
use Rattle.auth_server.specs.declared.listen.ListenEnd.TheVariants as ends
use Rattle.auth_program.specs.Statuses.{is_printable, status_number}
use Rattle.auth_program.specs.Log.{fault_line}
use Rattle.auth_program.specs.declared.status.Status.TheVariants as statuses
use Rattle.auth_program.specs.declared.ending.Ending.{Ending}
use Rattle.auth_program.specs.declared.ending.Ending.TheVariants.{Status, NoThread, ListenFault}

-- the end of accepting as an end of the program
abbrev pub of_listening : ListenEnd → Ending
of_listening ends.NoThread = NoThread
of_listening ends.ListenFault = ListenFault
of_listening ends.NoMemory = Status statuses.NoMemory

abbrev pub ending_number : Ending → ℕ
ending_number (Status status) = status_number status
ending_number NoThread = 12
ending_number ListenFault = 13

-- whether it has a line
abbrev pub is_told : Ending → Bool
is_told (Status status) = is_printable status
is_told NoThread = true
is_told ListenFault = true

abbrev pub ending_text : Ending → List ℕ
ending_text (Status status) = fault_line status
ending_text NoThread = codes "authd: no thread" ++ 10 ∷ []
ending_text ListenFault = codes "authd: listen fault" ++ 10 ∷ []
