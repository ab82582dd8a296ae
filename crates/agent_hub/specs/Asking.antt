-- What a loop of questions enters and asks: each question that it took is asked once, and the agent is told what that
-- came to; each connection that is given up is closed once.
use Rattle.std.specs.Prelude.{◌≡◌, ℕ, List, [], ◌∷◌, ◌++◌, true, false, Bool, Option, Result, Ok, Err, ◌⊎◌}
use Rattle.wire_base.specs.declared.shape.Shape.{Shape}
use Rattle.wire_streams.specs.Causes.{one_more}
use Rattle.wire_streams.specs.Dials.{Dialed}
use Rattle.wire_streams.specs.declared.dialer.Made.{Made}
use Rattle.wire_streams.specs.declared.dialer.Made.TheVariants.{Exchange, Close}
use Rattle.wire_streams.specs.declared.dialer.Outcome.{Outcome}
use Rattle.wire_streams.specs.declared.dialer.Outcome.TheVariants.{Answered, Unanswered, NoRoom as Roomless}
use Rattle.agent_history.specs.declared.event.Event.{Event}
use Rattle.agent_history.specs.declared.event.Event.TheVariants.{Answer, NoAnswer, NoRoom, TakeAsk}
use Rattle.agent_history.specs.declared.event.StepAnswer.{StepAnswer}
use Rattle.agent_history.specs.declared.event.StepAnswer.TheVariants.{Ask, DropCall, Stopped as IsStopped}
use Rattle.agent_history.specs.Histories.{History, answer}
use Rattle.agent_hub.specs.declared.questions.AsksEnd.{AsksEnd}
use Rattle.agent_hub.specs.declared.questions.AsksEnd.TheVariants.{Stopped, NoMemory}
use Rattle.agent_hub.specs.Submits.{HubSeat}
use Rattle.agent_hub.specs.Entries.{Adds, Entered, LastIs, entry}
use Rattle.agent_hub.specs.Dials.{MakesAll}

-- a question, or a connection that is given up, is handed out
abbrev pub is_handed : StepAnswer → Bool
is_handed (Ask call conv shape) = true
is_handed (DropCall conv) = true
is_handed other = false

-- the event that tells the agent what the exchange on a question came to
abbrev pub event_of : ℕ → Outcome → Event
event_of call (Answered bytes) = Answer call bytes
event_of call Unanswered = NoAnswer call
event_of call Roomless = NoRoom call

-- of an answer that was heard the agent may be told that there was no room for it: the event that holds it may have
-- been refused for memory
abbrev pub Tells : ℕ → Outcome → Event → Type 0
Tells call (Answered bytes) event = (event ≡ Answer call bytes) ⊎ (event ≡ NoRoom call)
Tells call Unanswered event = event ≡ NoAnswer call
Tells call Roomless event = event ≡ NoRoom call

-- These entries, the newest first, came with these calls, the oldest first: a take of what is due that finds nothing,
-- with none; one that gives up a connection, with its close; one that hands out a question and the entry that tells
-- what came of it, with the exchange on the conversation, the bytes and the shape of that question
pub data Asks : List Entered → List Made → Type 0 where
  AsksNone : Asks [] []
  FindsNone : (older : List Entered) (calls : List Made) (h : History) → Asks older calls
      → is_handed (answer h TakeAsk).0 ≡ false → Asks (entry h TakeAsk ∷ older) calls
  Closes : (older : List Entered) (calls : List Made) (h : History) (conv : ℕ) → Asks older calls
      → (answer h TakeAsk).0 ≡ DropCall conv → Asks (entry h TakeAsk ∷ older) (calls ++ Close conv ∷ [])
  Exchanges : (older : List Entered) (calls : List Made) (h later : History) (call conv : ℕ) (shape : Shape)
      (request : List ℕ) (outcome : Outcome) (event : Event) → Asks older calls
      → answer h TakeAsk ≡ (Ask call conv shape, request) → Tells call outcome event
      → Asks (entry later event ∷ entry h TakeAsk ∷ older) (calls ++ Exchange conv request shape outcome ∷ [])

-- how many faults a dialer has counted after these calls, the oldest first: an exchange that stays unanswered counts
-- one
abbrev pub faults_with : Outcome → ℕ → ℕ
faults_with (Answered bytes) count = count
faults_with Unanswered count = one_more count
faults_with Roomless count = count

abbrev pub faults_after : List Made → ℕ → ℕ
faults_after [] count = count
faults_after (Exchange conv request shape outcome ∷ calls) count = faults_after calls (faults_with outcome count)
faults_after (Close conv ∷ calls) count = faults_after calls count

-- The seat's own new entries are those of such a loop, and its calls were made of the dialer, which counted its
-- faults in them and no others
pub record Asked (before after : HubSeat) (old new : Option Dialed) (faults later : ℕ) : Type 0 where
  pub mine : List Entered
  pub added : Adds mine before after
  pub calls : List Made
  pub asks : Asks mine calls
  pub made : MakesAll old new calls
  pub counted : later ≡ faults_after calls faults

-- how the loop ends: stopped only where its last take of what is due was answered so
abbrev pub AsksEndSo : AsksEnd → HubSeat → HubSeat → Option Dialed → Option Dialed → ℕ → ℕ → Type 0
AsksEndSo Stopped before after old new faults later =
    (a : Asked before after old new faults later) × LastIs IsStopped a.mine
AsksEndSo NoMemory before after old new faults later = Asked before after old new faults later

-- ---- of the code alone: one exchange, and one take of what is due

pub record Exchanged (call conv : ℕ) (request : List ℕ) (shape : Shape) (before now : Option Dialed) (faults later : ℕ)
    (event : Event) : Type 0 where
  pub outcome : Outcome
  pub is : event ≡ event_of call outcome
  pub made : MakesAll before now (Exchange conv request shape outcome ∷ [])
  pub counted : later ≡ faults_with outcome faults

abbrev pub NextSo : Result Bool AsksEnd → HubSeat → HubSeat → Option Dialed → Option Dialed → ℕ → ℕ → Type 0
NextSo (Ok more) before after old new faults later = Asked before after old new faults later
NextSo (Err end) before after old new faults later = AsksEndSo end before after old new faults later

-- the agent was told
pub record Told (call : ℕ) (outcome : Outcome) (before after : HubSeat) : Type 0 where
  pub event : Event
  pub tells : Tells call outcome event
  pub later : History
  pub added : (first : HubSeat) (older : List Entered) → Adds older first before
      → Adds (entry later event ∷ older) first after
