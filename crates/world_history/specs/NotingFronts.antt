-- What is noted of the setting of a script's record before the lines that are left, where its domain and its newest
-- tables were read ahead. This serves proofs alone.
use Rattle.std.specs.Prelude.{◌≡◌, ℕ, List, [], ◌∷◌, ◌++◌, map, Option, option_map, if◌then◌else◌}
use Rattle.std.specs.Str.{bytes_eq}
use Rattle.key_lists.specs.Lists.{KeyEntry}
use Rattle.auth_tables.specs.Keys.{key_of}
use Rattle.wire_histories.specs.Legal.{Tables as BothTables}
use Rattle.wire_histories.specs.Noted.{Noted}
use Rattle.world_scripts.specs.Scripts.{Numbered}
use Rattle.world_history.specs.Acts.{Act}
use Rattle.world_history.specs.AllTables.{knows, past_tables}
use Rattle.world_history.specs.Noting.{key_kept, noted_entry}
use Rattle.world_history.specs.Servers.{AreToldBy}
use Rattle.world_history.specs.Telling.{Tells}
use Rattle.world_history.specs.Told.{told_dom}
use Rattle.world_history.specs.declared.tables.Tables.{Tables}

-- the tables of which lines tell were noted
pub record NotesTables (lines : List Numbered) (old new : Noted) : Type 0 where
  pub tables : BothTables
  pub bad_key : Option ℕ
  pub bad_speak : Option ℕ
  pub told : AreToldBy lines bad_key bad_speak tables.keys tables.speaks
  pub noted : new ≡ record { keys = old.keys; dom = old.dom; tables = old.tables ++ tables ∷ [] }

-- no more was noted than the domain and the tables of which the lines of a script tell
abbrev pub BeginsSo : List Numbered → Noted → Type 0
BeginsSo lines n = NotesTables lines (record { keys = []; dom = told_dom lines; tables = [] }) n

-- the key of a conversation was noted, or that it has none
pub record NotesKey (conv : List ℕ) (key : Option KeyEntry) (old new : Noted) : Type 0 where
  pub keys : (other : List ℕ) → key_of other new.keys
      ≡ (if bytes_eq conv other then option_map noted_entry key else key_of other old.keys)
  pub dom : new.dom ≡ old.dom
  pub tables : new.tables ≡ old.tables

-- the tables of a server
abbrev pub both_tables : Tables → BothTables
both_tables server = record { keys = server.core.keys; speaks = server.core.speaks }

-- this was noted behind acts and before the lines that are left: the domain and the newest tables are those of a server
-- that was told ahead, and by the tables before them the same is known as by those before
pub record NotesFront (left : List Numbered) (acts : List Act) (n : Noted) : Type 0 where
  pub keys : (conv : List ℕ) → key_of conv n.keys ≡ option_map noted_entry (key_kept acts conv)
  pub server : Tables
  pub tells : Tells left acts server
  pub dom : n.dom ≡ server.core.dom
  pub past : List BothTables
  pub tables : n.tables ≡ past ++ both_tables server ∷ []
  pub known_past : (dom : List ℕ) → map (knows dom) past ≡ map (knows dom) (past_tables acts)
