-- What is so of the agents of a network behind some acts, and what it comes to for scripts.
use Rattle.std.specs.Prelude.{◌≡◌, ◌≤◌, ℕ, List, length, reverse, true, Some}
use Rattle.agent_history.specs.Conversations.{asker, conv_of}
use Rattle.agent_history.specs.Histories.{deeds}
use Rattle.wire_histories.specs.Legal.{IsLegal}
use Rattle.world_history.specs.Acts.{Act, Talk, agent_of, is_node, talk_of}
use Rattle.world_history.specs.Scripts.{play, world}
use Rattle.world_history.specs.Worlds.{history, outstanding}
use Rattle.world_promises.specs.Agents.{AgentsDo}
use Rattle.world_promises.specs.Conditions.{AreDone}
use Rattle.world_promises.specs.Settings.{Place, place_of, setting}
use Rattle.driven_agents.specs.Idle.{IsIdle, Runs}

-- no agent stopped, which each does with the event of number 2^50
abbrev pub AllRun : List Act → Type 0
AllRun acts = (agent : List ℕ) → Runs (history acts agent)

-- the fid of a conversation has it open
pub record IsSeated (acts : List Act) (conv : List ℕ) (t : Talk) (place : Place) : Type 0 where
  pub node : t.node ≡ place.node
  pub agent : agent_of acts t.node ≡ place.agent
  pub seat : conv_of (deeds (history acts place.agent)) 0 t.fid ≡ Some place.number
  -- its question that is outstanding is one of the agent's
  pub asks : (call : ℕ) → outstanding acts conv ≡ Some call
      → asker (deeds (history acts place.agent)) call ≡ Some place.number

pub record AreSeated (acts : List Act) : Type 0 where
  pub idle : (node : List ℕ) → is_node acts node ≡ true → IsIdle (history acts (agent_of acts node))
  pub seats : (conv : List ℕ) (t : Talk) (place : Place) → talk_of acts conv ≡ Some t → place_of acts conv ≡ Some place
      → IsSeated acts conv t place

-- ---- the laws

-- where no agent stopped, all are idle between acts, and each does by a turn what its conversations do
abbrev pub AllSeated : Type 0
AllSeated = (acts : List Act) → AreDone acts → AllRun acts → AreSeated acts

abbrev pub AllDo : Type 0
AllDo = (acts : List Act) → AreDone acts → AllRun acts → AgentsDo acts

abbrev pub ScriptsDo : Type 0
ScriptsDo = (script : List ℕ) → AllRun (play script).acts → AgentsDo (play script).acts

-- no agent of a script stops that is no longer than one may be
abbrev pub most_script : ℕ
most_script = 4194304

abbrev pub ScriptsRun : Type 0
ScriptsRun = (script : List ℕ) → length script ≤ most_script → AllRun (play script).acts

-- so its record is legal
abbrev pub ScriptsAreLegal : Type 0
ScriptsAreLegal = (script : List ℕ) → length script ≤ most_script
    → IsLegal (reverse (world script)) (setting (play script).acts)
