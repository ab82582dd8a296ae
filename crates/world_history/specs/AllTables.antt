-- All tables that the authentication server of a network had, as what the lines of each say.
use Rattle.std.specs.Prelude.{ℕ, List, [], ◌∷◌, ◌++◌, map}
use Rattle.auth_tables.specs.Lines.{counted}
use Rattle.auth_tables.specs.Keys.{keys_in}
use Rattle.auth_tables.specs.Speaks.{SpeakLine, names_in, speaks_in}
use Rattle.auth_server.specs.Answers.{Knowledge}
use Rattle.auth_server.specs.Standing.{knowledge}
use Rattle.wire_histories.specs.Legal.{Tables, tables_at}
use Rattle.world_history.specs.Acts.{Act, Reloaded, domain, key_lines, speak_lines}

-- each host of some lines, with all the names that they give it
abbrev pub merged : List SpeakLine → List SpeakLine
merged lines = map (λ line. (line.0, names_in lines line.0)) lines

-- the newest tables
abbrev pub tables_of : List Act → Tables
tables_of acts = record {
  keys = keys_in (counted (key_lines acts));
  speaks = merged (speaks_in (counted (speak_lines acts)));
}

-- those before them, the first of them first
abbrev pub past_tables : List Act → List Tables
past_tables [] = []
past_tables (Reloaded ∷ before) = past_tables before ++ tables_of before ∷ []
past_tables (act ∷ before) = past_tables before

-- all of them
abbrev pub all_tables : List Act → List Tables
all_tables acts = past_tables acts ++ tables_of acts ∷ []

-- what a server of a domain knows by tables
abbrev pub knows : List ℕ → Tables → Knowledge
knows dom tables = knowledge (record { dom = dom; keys = tables.keys; speaks = tables.speaks })

-- what the server knows by the tables of a number, from 0 on
abbrev pub known_by : List Act → ℕ → Knowledge
known_by acts number = knows (domain acts) (tables_at (all_tables acts) number)
