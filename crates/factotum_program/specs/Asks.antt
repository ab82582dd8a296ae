-- Of the code alone: how far the questions of a frame, and a frame, were carried out. Before and after stand what the
-- dialer tells of its calls.
use Rattle.std.specs.Prelude.{◌≡◌, ◌⊎◌, ℕ, List, [], ◌∷◌, Bool, true, false, Option}
use Rattle.wire_base.specs.declared.shape.Shape.{Shape}
use Rattle.wire_streams.specs.Dials.{Dialed}
use Rattle.wire_streams.specs.declared.dialer.Made.TheVariants.{Exchange}
use Rattle.wire_streams.specs.declared.dialer.Outcome.{Outcome}
use Rattle.agent_history.specs.declared.event.Event.{Event}
use Rattle.agent_history.specs.declared.event.Event.TheVariants.{TakeAsk}
use Rattle.agent_history.specs.Histories.{History, answer}
use Rattle.agent_core.specs.declared.agent.Agent.{Agent}
use Rattle.agent_core.specs.Agents.{StandsFor}
use Rattle.auth_program.specs.declared.status.Status.{Status}
use Rattle.factotum_program.specs.Pipe.{after_turn, ask_all, asked_in, close_next, event_of, exchange_next, is_ask, is_drop, text_of, told_next, turn_of}
use Rattle.factotum_program.specs.Sights.{MakesAll, MakesPart}
use Rattle.factotum_program.specs.Gathers.{Gathers, GathersPart}

-- a question was asked, and this event tells what that came to
pub record Exchanges (call conv : ℕ) (request : List ℕ) (shape : Shape) (before now : Option Dialed)
    (event : Event) : Type 0 where
  pub outcome : Outcome
  pub is : event ≡ event_of call outcome
  pub made : MakesAll before now (Exchange conv request shape outcome ∷ [])

-- the next question was asked, and the agent was told
pub record AsksNext (history : History) (before now : Option Dialed) (agent : Agent) : Type 0 where
  pub outcome : Outcome
  pub one : is_ask (answer history TakeAsk).0 ≡ true
  pub made : MakesAll before now (exchange_next history outcome ∷ [])
  pub stands : StandsFor (told_next history outcome) agent

-- the next connection was closed
pub record ClosesNext (history : History) (before now : Option Dialed) (agent : Agent) : Type 0 where
  pub one : is_drop (answer history TakeAsk).0 ≡ true
  pub made : MakesAll before now (close_next history ∷ [])
  pub stands : StandsFor (TakeAsk ∷ history) agent

-- nothing is due
pub record AsksNone (history : History) (before now : Option Dialed) (agent : Agent) : Type 0 where
  pub none : is_ask (answer history TakeAsk).0 ≡ false
  pub kept : is_drop (answer history TakeAsk).0 ≡ false
  pub made : MakesAll before now []
  pub stands : StandsFor (TakeAsk ∷ history) agent

-- there was a question to ask or a connection to close, or nothing
abbrev pub AsksOne : Bool → History → Option Dialed → Option Dialed → Agent → Type 0
AsksOne true history before now agent = AsksNext history before now agent ⊎ ClosesNext history before now agent
AsksOne false history before now agent = AsksNone history before now agent

-- all questions were asked, and all connections closed
pub record AsksAll (history : History) (before now : Option Dialed) (agent : Agent) : Type 0 where
  pub heard : List Outcome
  pub met : (ask_all heard history).met ≡ true
  pub made : MakesAll before now (ask_all heard history).calls
  pub stands : StandsFor (ask_all heard history).history agent

-- some were
pub record AsksSome (history : History) (before now : Option Dialed) : Type 0 where
  pub heard : List Outcome
  pub made : MakesPart before now (ask_all heard history).calls

-- a frame was answered, and its replies are gathered
pub record Turns (history : History) (frame word : List ℕ) (before now : Option Dialed) (origin held : Option (List ℕ))
    (gathered : List ℕ) (agent : Agent) : Type 0 where
  pub heard : List Outcome
  pub met : (asked_in history (turn_of frame word heard)).met ≡ true
  pub made : MakesAll before now (asked_in history (turn_of frame word heard)).calls
  pub stands : StandsFor (after_turn history (turn_of frame word heard)) agent
  pub told : Gathers origin held gathered (text_of (after_turn history (turn_of frame word heard)))

-- a frame was answered in part
pub record TurnsPart (status : Status) (history : History) (frame word : List ℕ) (before now : Option Dialed)
    (origin held : Option (List ℕ)) (gathered : List ℕ) : Type 0 where
  pub heard : List Outcome
  pub made : MakesPart before now (asked_in history (turn_of frame word heard)).calls
  pub told : GathersPart status origin held gathered (text_of (after_turn history (turn_of frame word heard)))
