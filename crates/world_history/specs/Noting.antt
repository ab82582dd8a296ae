-- What is noted of the setting of a network's record, act by act: the key that each conversation keeps, as its agent
-- said when the conversation was last asked something, answered, or left without an answer; the authentication
-- server's domain, and what it knows by each of the tables that it had.
use Rattle.std.specs.Prelude.{◌≡◌, ℕ, List, [], ◌∷◌, length, codes, Option, Some, None, option_map, if◌then◌else◌}
use Rattle.std.specs.Str.{bytes_eq}
use Rattle.attr_tuples.specs.Matching.{value_of}
use Rattle.key_lists.specs.Lists.{KeyEntry}
use Rattle.auth_tables.specs.Keys.{UserKey, key_of}
use Rattle.agent_history.specs.Conversations.{chosen_at}
use Rattle.agent_history.specs.Histories.{deeds}
use Rattle.wire_histories.specs.Answers.{told_key}
use Rattle.wire_histories.specs.Noted.{Noted, noted_key, noted_known}
use Rattle.world_history.specs.Acts.{Act, Talk, Started, Got, Given, Answered, Unanswered, agent_of, domain, talk_of}
use Rattle.world_history.specs.AllTables.{all_tables, known_by}
use Rattle.world_history.specs.Worlds.{history}

-- the conversation that an act asks something, answers, or leaves without an answer
abbrev pub conv_asked : Act → Option (List ℕ)
conv_asked (Started conv word tuple) = Some conv
conv_asked (Got conv) = Some conv
conv_asked (Given conv bytes) = Some conv
conv_asked (Answered conv bytes call) = Some conv
conv_asked (Unanswered conv call) = Some conv
conv_asked act = None

-- the key that the agent of a conversation says that it has chosen, where it is open
abbrev pub chosen_by : List Act → Option Talk → Option KeyEntry
chosen_by acts None = None
chosen_by acts (Some talk) = chosen_at (deeds (history acts (agent_of acts talk.node))) 0 talk.fid

abbrev pub chosen_now : List Act → List ℕ → Option KeyEntry
chosen_now acts conv = chosen_by acts (talk_of acts conv)

-- the key that a conversation keeps behind acts, the newest of which asked this one, or none
abbrev pub kept_behind : List Act → List ℕ → Option (List ℕ) → Option KeyEntry → Option KeyEntry
kept_behind acts conv None before = before
kept_behind acts conv (Some name) before = if bytes_eq name conv then chosen_now acts name else before

abbrev pub key_kept : List Act → List ℕ → Option KeyEntry
key_kept [] conv = None
key_kept (act ∷ before) conv = kept_behind (act ∷ before) conv (conv_asked act) (key_kept before conv)

-- a key of an agent as it is noted
abbrev pub noted_entry : KeyEntry → UserKey
noted_entry key = noted_key (told_key key, value_of (codes "!password") key.tuple)

-- this was noted behind acts
pub record NotesSo (acts : List Act) (n : Noted) : Type 0 where
  pub keys : (conv : List ℕ) → key_of conv n.keys ≡ option_map noted_entry (key_kept acts conv)
  pub dom : n.dom ≡ domain acts
  pub as_many : length n.tables ≡ length (all_tables acts)
  pub known : (number : ℕ) → noted_known n number ≡ known_by acts number
