-- How a program that answers for its user goes on where that ends before the agent stops, and what it tells of the
-- ends. The definitions are the project's own.
use Rattle.std.specs.Prelude.{◌≡◌, ℕ, ◌-◌, List, [], ◌∷◌, ◌++◌, Bool, true, false, Option}
use Rattle.std.specs.List.{list_any}
use Rattle.wire_streams.specs.Spawning.{Gains}
use Rattle.prompters.specs.Manners.{Manner}
use Rattle.agent_hub.specs.Submits.{HubSeat}
use Rattle.agent_serving.specs.declared.prompts.PromptsEnd.{PromptsEnd}
use Rattle.agent_serving.specs.declared.prompts.PromptsEnd.TheVariants.{Idle, InUse, TooLong, NoQuestion, Gone, NoMemory}
use Rattle.agent_serving.specs.Prompting.{PromptsSo}

-- nobody answers any more behind this end
abbrev pub is_last : PromptsEnd → Bool
is_last Idle = true
is_last InUse = false
is_last TooLong = false
is_last NoQuestion = false
is_last Gone = true
is_last NoMemory = false

-- the connection on which it goes on: the same, which has the files open still, but where another had one open
abbrev pub conn_behind : PromptsEnd → ℕ → ℕ
conn_behind InUse conn = conn - 1
conn_behind Idle conn = conn
conn_behind TooLong conn = conn
conn_behind NoQuestion conn = conn
conn_behind Gone conn = conn
conn_behind NoMemory conn = conn

-- From a connection, a chain and a seat on it answered for its user again and again, each time from where it stood
-- before, and ended so, the first time first. It stands at this connection, chain and seat
pub data Answers (first : ℕ) (whole : List Manner) (start : HubSeat) : ℕ → List Manner → HubSeat → List PromptsEnd
    → Type 0 where
  NeverYet : Answers first whole start first whole start []
  Again : (conn : ℕ) (chain now : List Manner) (before after : HubSeat) (ends : List PromptsEnd) (end : PromptsEnd)
      → Answers first whole start conn chain before ends → PromptsSo conn chain now before after end
      → Answers first whole start (conn_behind end conn) now after (ends ++ end ∷ [])

-- It ended for good, and never before. Each end was told, once and in order
pub record KeepsSo (first : ℕ) (whole now : List Manner) (start after : HubSeat) (log later : Option (List PromptsEnd))
    (end : PromptsEnd) : Type 0 where
  pub conn : ℕ
  pub chain : List Manner
  pub before : HubSeat
  pub ends : List PromptsEnd
  pub answers : Answers first whole start conn chain before ends
  pub none_last : list_any is_last ends ≡ false
  pub prompts : PromptsSo conn chain now before after end
  pub last : is_last end ≡ true
  pub told : Gains log later (ends ++ end ∷ [])

-- Of the code alone: it goes on
pub record Keeping (first : ℕ) (whole : List Manner) (start : HubSeat) (conn : ℕ) (chain : List Manner) (seat : HubSeat)
    (log later : Option (List PromptsEnd)) : Type 0 where
  pub ends : List PromptsEnd
  pub answers : Answers first whole start conn chain seat ends
  pub none_last : list_any is_last ends ≡ false
  pub told : Gains log later ends
