-- Of the code alone: what the parts of `authsrv` tell each other.
use Rattle.std.specs.Prelude.{◌≡◌, ℕ, List, Bool, true, false, Option, None, Some, ⊤}
use Rattle.auth_tables.specs.Keys.{bad_key_line, key_of, table_keys}
use Rattle.auth_tables.specs.Speaks.{bad_speak_line, names_in, names_of, table_speaks}
use Rattle.auth_tables.specs.declared.lines.TableFault.{TableFault}
use Rattle.auth_tables.specs.declared.lines.TableFault.TheVariants as faults
use Rattle.auth_server.specs.Serving.{most_input}
use Rattle.auth_server.specs.declared.serve.AuthEnd.{AuthEnd}
use Rattle.auth_server.specs.declared.serve.AuthEnd.TheVariants as ends
use Rattle.auth_program.specs.declared.status.Status.{Status}
use Rattle.auth_program.specs.declared.status.Status.TheVariants.{Fine, ReadFault, WriteFault, WordFault, Torn, BadTables, AsEnded, NoMemory, Flood}
use Rattle.auth_program.specs.declared.tables.Tables.{Tables}
use Rattle.auth_program.specs.Files.{ReadsFile}

-- the status of a fault of a table
abbrev pub IsBadTable : Bool → TableFault → Status → Type 0
IsBadTable speaks (faults.Line line) status = status ≡ BadTables speaks line
IsBadTable speaks faults.NoMemory status = status ≡ NoMemory

-- tables are those of two files, which have no bad line
pub record HasParsed (keys speaks : List ℕ) (tables : Tables) : Type 0 where
  pub by_user : (user : List ℕ) → key_of user tables.keys ≡ key_of user (table_keys keys)
  pub by_host : (host : List ℕ) → names_of host tables.speaks ≡ names_in (table_speaks speaks) host
  pub good_keys : bad_key_line keys ≡ None
  pub good_speaks : bad_speak_line speaks ≡ None

-- why they aren't
abbrev pub IsTableEnd : Status → List ℕ → List ℕ → Type 0
IsTableEnd (BadTables false line) keys speaks = bad_key_line keys ≡ Some line
IsTableEnd (BadTables true line) keys speaks = (bad_key_line keys ≡ None) × (bad_speak_line speaks ≡ Some line)
IsTableEnd NoMemory keys speaks = ⊤
IsTableEnd status keys speaks = ⊥

-- both tables were read and parsed
pub record HasRead (keys_before keys_now speaks_before speaks_now : Option (List ℕ)) (tables : Tables) : Type 0 where
  pub keys : List ℕ
  pub speaks : List ℕ
  pub read_keys : ReadsFile keys_before keys_now keys
  pub read_speaks : ReadsFile speaks_before speaks_now speaks
  pub parsed : HasParsed keys speaks tables

-- the status of an end of a client
abbrev pub status_of_end : AuthEnd → Status
status_of_end ends.End = Fine
status_of_end (ends.UnknownType at kind) = AsEnded (ends.UnknownType at kind)
status_of_end (ends.Torn at) = Torn at
status_of_end ends.TooManyWrong = AsEnded ends.TooManyWrong
status_of_end ends.ReadFault = ReadFault
status_of_end ends.WriteFault = WriteFault
status_of_end ends.WordFault = WordFault
status_of_end ends.Flood = Flood most_input
status_of_end ends.NoMemory = NoMemory
