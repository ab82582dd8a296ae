-- When an agent stands for a history: what it keeps of each connection, and what the connections share, are what is
-- told of the deeds of the history; after a stop it keeps nothing.
use Rattle.std.specs.Prelude.{◌≡◌, ℕ, ◌≤◌, ◌+◌, List, [], length, Bool, true, false, ◌⊎◌}
use Rattle.agent_history.specs.declared.event.Event.{Event}
use Rattle.agent_history.specs.declared.event.StepAnswer.{StepAnswer}
use Rattle.agent_history.specs.Histories.{History, has_stopped, most_events, deeds}
use Rattle.mailboxes.specs.Deliveries.{replies_at}
use Rattle.agent_core.specs.declared.agent.Running.{Running}
use Rattle.agent_core.specs.declared.agent.State.{State}
use Rattle.agent_core.specs.declared.agent.State.TheVariants.{Runs, Stopped}
use Rattle.agent_core.specs.declared.agent.Agent.{Agent}
use Rattle.agent_requests.specs.Sharing.{SameShared}
use Rattle.agent_core.specs.Events.{Known, Lives, SameEach, TakesNoneOf, LeavesOneLess, HadOne, AsksFewer, HadAsk, NoneAsked, GivesUp, gives_to, is_stop, known, left_to_ask}

-- ---- agents

-- what is known of a number
abbrev pub connection_at : Running → ℕ → Known
connection_at r conn = known r.connections conn

-- an agent that hasn't stopped
pub record RunsAfter (history : History) (r : Running) : Type 0 where
  pub running : has_stopped history ≡ false
  pub events : r.events ≡ length history
  pub lives : Lives (deeds history) (connection_at r) r.shared

abbrev pub StandsBy : History → State → Type 0
StandsBy history Stopped = has_stopped history ≡ true
StandsBy history (Runs r) = RunsAfter history r

-- the agent stands for the history
pub record StandsFor (history : History) (agent : Agent) : Type 0 where
  pub stands : StandsBy history agent.state

-- ---- what stays

pub record SameRunning (old new : Running) : Type 0 where
  pub events : new.events ≡ old.events
  pub shared : SameShared old.shared new.shared
  pub connections : SameEach (connection_at old) (connection_at new)

abbrev pub SameState : State → State → Type 0
SameState Stopped Stopped = Unit {0}
SameState (Runs old) (Runs new) = SameRunning old new
SameState old new = ⊥

-- two agents are the same: both stopped, or the same is kept of each number, and is shared and counted
pub record SameAgent (old new : Agent) : Type 0 where
  pub state : SameState old.state new.state

-- ---- replies and memory

-- how many replies of a connection the agent keeps
abbrev pub replies_in : State → ℕ → List (List ℕ)
replies_in Stopped conn = []
replies_in (Runs r) conn = replies_at r.shared.mailboxes conn

abbrev pub kept_replies : Agent → ℕ → ℕ
kept_replies agent conn = length (replies_in agent.state conn)

-- an event is answered by a reply
abbrev pub gives_in : Event → State → Bool
gives_in event Stopped = false
gives_in event (Runs r) = gives_to event (connection_at r) r.shared

-- a take that gave a reply leaves one less, or none where it was the last event
abbrev pub TakesOneIn : Event → State → State → Type 0
TakesOneIn event (Runs old) (Runs new) = LeavesOneLess event old.shared new.shared
TakesOneIn event (Runs old) Stopped = HadOne event old.shared
TakesOneIn event Stopped new = ⊥

abbrev pub TakesOne : Event → Agent → Agent → Type 0
TakesOne event old new = TakesOneIn event old.state new.state

-- what takes no memory; after a stop, all events
abbrev pub TakesNoneIn : Event → State → Type 0
TakesNoneIn event Stopped = Unit {0}
TakesNoneIn event (Runs r) = TakesNoneOf event (connection_at r) r.shared

abbrev pub TakesNone : Event → Agent → Type 0
TakesNone event agent = TakesNoneIn event agent.state

-- how much is left to hand out, a question counted for two
abbrev pub left_in : State → ℕ
left_in Stopped = 0
left_in (Runs r) = left_to_ask r.shared

-- what is handed out is less to hand out, or nothing is where it was the last event; what is answered to a question
-- adds one connection at most that is given up
abbrev pub AsksFewerIn : Event → StepAnswer → State → State → Type 0
AsksFewerIn event a (Runs old) (Runs new) = AsksFewer event a old.shared new.shared
AsksFewerIn event a (Runs old) Stopped = HadAsk event a old.shared
AsksFewerIn event a Stopped new = NoneAsked a

-- ---- memory that is given up

-- an event that stops no agent, and isn't the last
abbrev pub GoesOn : Event → Running → Type 0
GoesOn event r = (is_stop event ≡ false) × (r.events + 2 ≤ most_events)

abbrev pub GoesOnIn : Event → State → Type 0
GoesOnIn event Stopped = Unit {0}
GoesOnIn event (Runs r) = GoesOn event r

-- the next event isn't the last that is carried out
abbrev pub HasMore : State → Type 0
HasMore Stopped = Unit {0}
HasMore (Runs r) = r.events + 2 ≤ most_events

-- an event behind which the agent stops
abbrev pub Ends : Event → Running → Type 0
Ends event r = (is_stop event ≡ true) ⊎ (r.events + 1 ≡ most_events)

abbrev pub EndsIn : Event → State → Type 0
EndsIn event Stopped = ⊥
EndsIn event (Runs r) = Ends event r

-- a stop and the last event that is carried out leave an agent that stopped, which keeps nothing; else a hang gives
-- up what is kept of its connection
abbrev pub GivesUpIn : Event → State → State → Type 0
GivesUpIn event Stopped new = new ≡ Stopped
GivesUpIn event (Runs old) Stopped = Ends event old
GivesUpIn event (Runs old) (Runs new) =
    GoesOn event old × GivesUp event (connection_at old) (connection_at new) new.shared
