-- What `authsrv` has read, drawn and written when it ends: its two tables, the keys first, and then the requests of
-- one client. Content is optional: the words on it hold where it is told. The server is that of authsrv(6) of the
-- Plan 9 manual.
use Rattle.std.specs.Prelude.{◌≡◌, ℕ, ◌≤◌, List, length, Option, Some, None, true, false, ◌⊎◌}
use Rattle.auth_tables.specs.Keys.{bad_key_line, key_of, table_keys}
use Rattle.auth_tables.specs.Speaks.{bad_speak_line, may_speak, names_in, table_speaks}
use Rattle.auth_server.specs.Answers.{Knowledge}
use Rattle.auth_server.specs.Serving.{EndsSo, IsServable, Moment, moment, most_input}
use Rattle.auth_server.specs.declared.serve.AuthEnd.{AuthEnd}
use Rattle.auth_server.specs.declared.serve.AuthEnd.TheVariants as ends
use Rattle.auth_program.specs.declared.status.Status.{Status}
use Rattle.auth_program.specs.declared.status.Status.TheVariants.{Fine, Usage, ReadFault, WriteFault, WordFault, BadFrame, Torn, BadScript, BadTables, AsEnded, NoMemory, Flood}
use Rattle.auth_program.specs.Files.{FloodsFile, ReadsFile, ReadsPart, most_file}

-- what the outside tells at a moment: what the two files have left, and what there is of the client
pub record Outside : Type 0 where
  pub keys : Option (List ℕ)
  pub speaks : Option (List ℕ)
  pub client : Moment

-- such a moment by its parts
abbrev pub outside : Option (List ℕ) → Option (List ℕ) → Option (List ℕ) → Option (List (List ℕ)) → Option (List ℕ)
    → Outside
outside keys speaks left to_come holds = record { keys = keys; speaks = speaks; client = moment left to_come holds }

-- what a server of a domain knows by the text of its tables
abbrev pub known_by : List ℕ → List ℕ → List ℕ → Knowledge
known_by dom keys speaks = record {
  dom = dom;
  key = λ user. key_of user (table_keys keys);
  speaks = λ host user. may_speak (names_in (table_speaks speaks) host) host user;
}

-- ---- tables

-- both tables were read
abbrev pub ReadsBoth : Outside → Outside → List ℕ → List ℕ → Type 0
ReadsBoth before now keys speaks = ReadsFile before.keys now.keys keys × ReadsFile before.speaks now.speaks speaks

-- the client was served by both tables, which have no bad line, and it came to this end
pub record Serves (dom : List ℕ) (end : AuthEnd) (before now : Outside) : Type 0 where
  pub keys : List ℕ
  pub speaks : List ℕ
  pub tables : ReadsBoth before now keys speaks
  pub good_keys : bad_key_line keys ≡ None
  pub good_speaks : bad_speak_line speaks ≡ None
  pub ends : EndsSo (known_by dom keys speaks) end before.client now.client

-- ---- what ends it before the client is looked at

-- a bad line of the keys; of the tables, both of which were read
pub record MeetsBadKeys (line : ℕ) (before now : Outside) : Type 0 where
  pub keys : List ℕ
  pub speaks : List ℕ
  pub tables : ReadsBoth before now keys speaks
  pub bad : bad_key_line keys ≡ Some line
  pub untouched : now.client ≡ before.client

-- a bad line of who speaks for whom, and none of the keys
pub record MeetsBadSpeaks (line : ℕ) (before now : Outside) : Type 0 where
  pub keys : List ℕ
  pub speaks : List ℕ
  pub tables : ReadsBoth before now keys speaks
  pub good_keys : bad_key_line keys ≡ None
  pub bad : bad_speak_line speaks ≡ Some line
  pub untouched : now.client ≡ before.client

-- the keys came to this, and nothing else was touched
pub record StopsAtKeys (Stops : Option (List ℕ) → Option (List ℕ) → Type 0) (before now : Outside) : Type 0 where
  pub keys : Stops before.keys now.keys
  pub speaks : now.speaks ≡ before.speaks
  pub untouched : now.client ≡ before.client

-- the keys were read, the other table came to this, and nothing else was touched
pub record StopsAtSpeaks (Stops : Option (List ℕ) → Option (List ℕ) → Type 0) (before now : Outside) : Type 0 where
  pub file : List ℕ
  pub keys : ReadsFile before.keys now.keys file
  pub speaks : Stops before.speaks now.speaks
  pub untouched : now.client ≡ before.client

-- one of the tables came to this
abbrev pub StopsAtTables : (Option (List ℕ) → Option (List ℕ) → Type 0) → Outside → Outside → Type 0
StopsAtTables Stops before now = StopsAtKeys Stops before now ⊎ StopsAtSpeaks Stops before now

-- memory ran out before the client was looked at
pub record LacksTables (before now : Outside) : Type 0 where
  pub untouched : now.client ≡ before.client

-- ---- the ends

-- what an `authsrv` of a domain that ended so has read, drawn and written; no other status ends it
abbrev pub ServesSo : List ℕ → Status → Outside → Outside → Type 0
ServesSo dom Fine before now = Serves dom ends.End before now
ServesSo dom Usage before now = ⊥
ServesSo dom ReadFault before now = StopsAtTables ReadsPart before now ⊎ Serves dom ends.ReadFault before now
ServesSo dom WriteFault before now = Serves dom ends.WriteFault before now
ServesSo dom WordFault before now = Serves dom ends.WordFault before now
ServesSo dom (BadFrame at size) before now = ⊥
ServesSo dom (Torn at) before now = Serves dom (ends.Torn at) before now
ServesSo dom (BadScript line cause) before now = ⊥
ServesSo dom (BadTables false line) before now = MeetsBadKeys line before now
ServesSo dom (BadTables true line) before now = MeetsBadSpeaks line before now
ServesSo dom (AsEnded (ends.UnknownType at kind)) before now = Serves dom (ends.UnknownType at kind) before now
ServesSo dom (AsEnded ends.TooManyWrong) before now = Serves dom ends.TooManyWrong before now
ServesSo dom (AsEnded end) before now = ⊥
ServesSo dom NoMemory before now = LacksTables before now ⊎ Serves dom ends.NoMemory before now
ServesSo dom (Flood limit) before now = ((limit ≡ most_file) × StopsAtTables FloodsFile before now)
    ⊎ ((limit ≡ most_input) × Serves dom ends.Flood before now)

-- ---- what is served to its end

-- both tables are told, not too long and without a bad line, and by them the client is servable
pub record IsServableAll (dom : List ℕ) (before : Outside) : Type 0 where
  pub keys : List ℕ
  pub speaks : List ℕ
  pub keys_told : before.keys ≡ Some keys
  pub speaks_told : before.speaks ≡ Some speaks
  pub few_keys : length keys ≤ most_file
  pub few_speaks : length speaks ≤ most_file
  pub good_keys : bad_key_line keys ≡ None
  pub good_speaks : bad_speak_line speaks ≡ None
  pub client : IsServable (known_by dom keys speaks) before.client
