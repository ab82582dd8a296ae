-- The setting of the record of a network: how each of its conversations started and what met its needs, read off the
-- history of its agent, and what the lines of the authentication server's tables say, of each pair that it had.
use Rattle.std.specs.Prelude.{ℕ, ◌+◌, List, [], ◌∷◌, take, Option, Some, None, option_map, if◌then◌else◌}
use Rattle.std.specs.Str.{bytes_eq}
use Rattle.talks.specs.Standings.{Begun, Standing}
use Rattle.agent_history.specs.Conversations.{opened_talks, standing_of}
use Rattle.agent_history.specs.Histories.{deeds}
use Rattle.wire_histories.specs.Conversations.{kept_in, met_in}
use Rattle.wire_histories.specs.Histories.{reloads_in}
use Rattle.wire_histories.specs.Histories as wire
use Rattle.wire_histories.specs.Legal.{Setting, Spoken}
use Rattle.world_history.specs.Acts.{Act, Opened, agent_of, domain}
use Rattle.world_history.specs.AllTables.{all_tables}
use Rattle.world_history.specs.Worlds.{history}

-- ---- conversations

-- the node of a conversation, the agent that this had when it was opened, and its number there
pub record Place : Type 0 where
  pub node : List ℕ
  pub agent : List ℕ
  pub number : ℕ

-- of one that is opened now
abbrev pub next_place : List Act → List ℕ → Place
next_place before node = record {
  node = node;
  agent = agent_of before node;
  number = opened_talks (deeds (history before (agent_of before node)));
}

-- of a conversation of a name, closed or not
abbrev pub place_of : List Act → List ℕ → Option Place
place_of [] conv = None
place_of (Opened node name ∷ before) conv =
    if bytes_eq name conv then Some (next_place before node) else place_of before conv
place_of (act ∷ before) conv = place_of before conv

-- how it stands
abbrev pub standing_at : List Act → Place → Standing
standing_at acts place = standing_of (deeds (history acts place.agent)) place.number

-- what it was started with, what met its needs, and the key that it keeps
abbrev pub spoken_by : List ℕ → Begun → Spoken
spoken_by node b = record {
  node = node;
  start = b.start;
  met = met_in b.start b.moves;
  key = kept_in b.start b.moves;
}

abbrev pub spoken_at : List Act → Option Place → Option Spoken
spoken_at acts None = None
spoken_at acts (Some place) = option_map (spoken_by place.node) (standing_at acts place).begun

abbrev pub setting : List Act → Setting
setting acts = record {
  spoken = λ name. spoken_at acts (place_of acts name);
  dom = domain acts;
  tables = all_tables acts;
}

-- what it was when no more than this was recorded: of its tables those that were in force till then
abbrev pub setting_at : Setting → wire.History → Setting
setting_at z past = record { spoken = z.spoken; dom = z.dom; tables = take (reloads_in past + 1) z.tables }
