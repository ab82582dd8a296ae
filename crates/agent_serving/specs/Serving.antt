-- What an agent of many connections has accepted, which jobs were taken for that, and what its seat entered. What a
-- listener and a spawner tell is optional. The definitions are the project's own.
use Rattle.std.specs.Prelude.{◌≡◌, ◌≤◌, ℕ, ◌+◌, ◌-◌, ◌^◌, min, List, [], ◌∷◌, ◌++◌, length, Option}
use Rattle.std.specs.List.{AllByRecursion}
use Rattle.agent_history.specs.declared.event.Event.{Event}
use Rattle.agent_history.specs.declared.event.Event.TheVariants.{Hang, Stop, Take}
use Rattle.wire_streams.specs.Listening.{Came}
use Rattle.wire_streams.specs.Spawning.{Gains}
use Rattle.agent_hub.specs.Submits.{HubSeat}
use Rattle.agent_hub.specs.Entries.{Adds, Entered, events_in}
use Rattle.agent_serving.specs.declared.job.Job.{Job}
use Rattle.agent_serving.specs.declared.job.Job.TheVariants.{Asks, Line, Prompts}
use Rattle.agent_serving.specs.declared.accept.ServeEnd.{ServeEnd}
use Rattle.agent_serving.specs.declared.accept.ServeEnd.TheVariants.{NoThread, ListenFault, NoMemory}

-- a job asks the authentication server
pub record IsAsking {I O : Type 0} (job : Job I O) : Type 0 where
  pub seat : HubSeat
  pub asks : job ≡ Asks seat

-- the number of the connection on which what the agent asks its user is answered: 2^64 - 1
abbrev pub prompts_conn : ℕ
prompts_conn = 18446744073709551615

-- a job answers what the agent asks its user
pub record IsPrompting {I O : Type 0} (job : Job I O) : Type 0 where
  pub seat : HubSeat
  pub prompts : job ≡ Prompts seat prompts_conn

-- Connections that were accepted, in order, numbered from 0, with the jobs that were taken for them, how many found
-- no thread, and what was entered, the newest first. Each was opened by a take. Then its job was taken, which has
-- both of its ends; or there was no thread for that, and it was hung up.
pub data Opened {I O : Type 0} : List (I × O) → List (Job I O) → ℕ → List Event → Type 0 where
  NoneYet : Opened [] [] 0 []
  Started : (before : List (I × O)) (jobs : List (Job I O)) (lost : ℕ) (events : List Event) (connection : I × O)
      (seat : HubSeat) → Opened before jobs lost events
      → Opened (before ++ connection ∷ []) (jobs ++ Line seat (length before) connection.0 connection.1 ∷ []) lost
      (Take (length before) ∷ events)
  Lost : (before : List (I × O)) (jobs : List (Job I O)) (lost : ℕ) (events : List Event) (connection : I × O)
      → Opened before jobs lost events
      → Opened (before ++ connection ∷ []) jobs (lost + 1) (Hang (length before) ∷ Take (length before) ∷ events)

-- a count of faults rose by as many, or stands at the last value of a counter of 64 bits
abbrev pub RoseBy : ℕ → ℕ → ℕ → Type 0
RoseBy many before now = min (before + many) (2 ^ 64 - 1) ≤ now

-- From the first seat to this one, where a listener told so before and now, a spawner had taken so before and now,
-- and counted so many faults before and now
module _ {I O : Type 0} (asks : ℕ) (first seat : HubSeat) (came left : Option (List (I × O)))
    (taken now : Option (List (Job I O))) (faults failed : ℕ) where
  -- So many jobs were taken that ask the authentication server, and one that answers for the user. Connections were
  -- accepted, and of those that weren't refused each was opened; behind that these events were entered. Each job
  -- that wasn't taken is a fault
  pub record Serving (last : List Event) (refused : List (I × O)) : Type 0 where
    pub asking : List (Job I O)
    pub ask : AllByRecursion IsAsking asking
    pub many : length asking ≡ asks
    pub prompting : Job I O
    pub prompts : IsPrompting prompting
    pub accepted : List (I × O)
    pub arrived : Came came left (accepted ++ refused)
    pub lines : List (Job I O)
    pub lost : ℕ
    pub events : List Event
    pub opened : Opened accepted lines lost events
    pub took : Gains taken now (asking ++ prompting ∷ lines)
    pub cause : RoseBy lost faults failed
    pub mine : List Entered
    pub added : Adds mine first seat
    pub entered : events_in mine ≡ last ++ events

  -- it goes on, and this is the number of the next connection
  pub record Going (conn : ℕ) : Type 0 where
    pub serving : Serving [] []
    pub number : conn ≡ length serving.accepted

  -- nothing was accepted: of the jobs that ask these were taken, and there was no thread for the next one, or for
  -- the one that answers for the user
  pub record NotBegun (last : List Event) : Type 0 where
    pub none : Came came left []
    pub asking : List (Job I O)
    pub ask : AllByRecursion IsAsking asking
    pub few : length asking ≤ asks
    pub took : Gains taken now asking
    pub mine : List Entered
    pub added : Adds mine first seat
    pub entered : events_in mine ≡ last

  -- What came to this end: it hadn't begun; accepting failed; or there was no memory for the take of the last
  -- connection that came, or no number for one more
  abbrev pub EndedBy : List Event → ServeEnd → Type 0
  EndedBy last NoThread = NotBegun last
  EndedBy last ListenFault = Serving last []
  EndedBy last NoMemory = (refused : List (I × O)) × (length refused ≤ 1) × Serving last refused

-- at the end the agent was stopped
abbrev pub ServesSo : {I O : Type 0} → ServeEnd → ℕ → HubSeat → HubSeat → Option (List (I × O)) → Option (List (I × O))
    → Option (List (Job I O)) → Option (List (Job I O)) → ℕ → ℕ → Type 0
ServesSo end asks first seat came left taken now faults failed =
    EndedBy asks first seat came left taken now faults failed (Stop ∷ []) end

-- ---- of the code alone: the jobs that ask, started one after the other

-- so many of them were taken, and nothing was entered
pub record Asking {I O : Type 0} (first seat : HubSeat) (taken now : Option (List (Job I O))) (many : ℕ) : Type 0 where
  pub asking : List (Job I O)
  pub ask : AllByRecursion IsAsking asking
  pub count : length asking ≡ many
  pub took : Gains taken now asking
  pub added : Adds [] first seat

-- at most so many were
pub record AsksSome {I O : Type 0} (first seat : HubSeat) (taken now : Option (List (Job I O)))
    (most : ℕ) : Type 0 where
  pub many : ℕ
  pub few : many ≤ most
  pub asking : Asking first seat taken now many
