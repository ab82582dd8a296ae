-- What a server knows by its two tables, or why it knows nothing.
use Rattle.std.specs.Prelude.{◌≡◌, ℕ, List, Option, None, true, false}
use Rattle.auth_tables.specs.Keys.{bad_key_line}
use Rattle.auth_tables.specs.Speaks.{bad_speak_line}
use Rattle.auth_server.specs.Standing.{Server, knowledge}
use Rattle.auth_program.specs.Files.{FloodsFile, ReadsFile, ReadsPart, most_file}
use Rattle.auth_program.specs.Serving.{LacksTables, MeetsBadKeys, MeetsBadSpeaks, Outside, StopsAtTables, known_by}
use Rattle.auth_program.specs.declared.status.Status.{Status}
use Rattle.auth_program.specs.declared.status.Status.TheVariants.{ReadFault, BadTables, NoMemory, Flood}

-- Both tables of a domain were read whole and have no bad line, and what a server knows is what they say.
pub record HasCore (dom : List ℕ) (keys_before keys_now speaks_before speaks_now : Option (List ℕ))
    (core : Server) : Type 0 where
  pub keys : List ℕ
  pub speaks : List ℕ
  pub read_keys : ReadsFile keys_before keys_now keys
  pub read_speaks : ReadsFile speaks_before speaks_now speaks
  pub good_keys : bad_key_line keys ≡ None
  pub good_speaks : bad_speak_line speaks ≡ None
  pub knows : knowledge core ≡ known_by dom keys speaks

-- what ends a server before its client is looked at, by the status
abbrev pub StopsEarly : Status → Outside → Outside → Type 0
StopsEarly ReadFault before now = StopsAtTables ReadsPart before now
StopsEarly (BadTables false line) before now = MeetsBadKeys line before now
StopsEarly (BadTables true line) before now = MeetsBadSpeaks line before now
StopsEarly NoMemory before now = LacksTables before now
StopsEarly (Flood limit) before now = (limit ≡ most_file) × StopsAtTables FloodsFile before now
StopsEarly status before now = ⊥
