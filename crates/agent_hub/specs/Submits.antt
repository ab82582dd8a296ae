-- What a submit says of a seat, of its event, and of what that is answered. A seat's front is what the seat has seen
-- of the one history of all callers; the answer is that of the agent after all that stands before the event.
use Rattle.std.specs.Prelude.{◌≡◌, ℕ, List, ◌∷◌, ◌++◌, [], Bool, true, false, not, ◌&&◌, ◌||◌, Result, Ok, Err}
use Rattle.wire_base.specs.declared.bytes.NoMemory.{NoMemory}
use Rattle.turn_lock.specs.Fronts.{Front, events, made, own}
use Rattle.turn_lock.specs.Seats.{SeatOf, front, numbers}
use Rattle.turn_lock.specs.Seats as lock
use Rattle.agent_history.specs.declared.event.Event.{Event}
use Rattle.agent_history.specs.declared.event.Event.TheVariants.{Request, Answer, Take, TakeAsk}
use Rattle.agent_history.specs.declared.event.StepAnswer.{StepAnswer}
use Rattle.agent_history.specs.Deeds.{was_opened}
use Rattle.agent_history.specs.Histories.{History, answer, deeds, has_stopped, is_reply}
use Rattle.agent_history.specs.Conversations.{Due, NoneDue, DropDue, QuestionDue, due}
use Rattle.agent_core.specs.Events.{Answers}
use Rattle.agent_hub.specs.declared.held.Held.{Held}
use Rattle.agent_hub.specs.declared.hub.Hub.{Hub}

abbrev pub HubSeat : Type 0
HubSeat = SeatOf Held Event

-- it is a seat of this hub
abbrev pub IsSeatOf : Hub → HubSeat → Type 0
IsSeatOf hub seat = lock.IsSeatOf hub.lock seat

-- something is due to be handed out
abbrev pub is_due : Due → Bool
is_due NoneDue = false
is_due (DropDue drop) = true
is_due (QuestionDue question) = true

-- Whether memory may be short for an event after a history. It never is for a hang, for the want of an answer, for a
-- stop, for a take that finds nothing on a connection that was opened, and for a take of what is due where nothing is
abbrev pub takes_memory : History → Event → Bool
takes_memory history (Request conn frame word) = true
takes_memory history (Answer call bytes) = true
takes_memory history (Take conn) = not (was_opened (deeds history) conn) || is_reply (answer history (Take conn)).0
takes_memory history TakeAsk = not (has_stopped history) && is_due (due (deeds history))
takes_memory history event = false

-- what a step after a history answers to an event, and puts behind what `out` held; where memory is short, nothing
abbrev pub IsAnswered : History → Event → Result StepAnswer NoMemory → List ℕ → List ℕ → Type 0
IsAnswered history event (Ok a) old new = Answers history event a old new
IsAnswered history event (Err e) old new = (takes_memory history event ≡ true) × (new ≡ old)

-- the event that is entered: none where memory is short
abbrev pub entered : Event → Result StepAnswer NoMemory → List Event
entered event (Ok a) = event ∷ []
entered event (Err e) = []

-- The seat has seen what others did meanwhile, and at the end its own event, if memory sufficed, which is answered
-- after all of that. Of its own entries no other is new
pub record IsSubmitted (event : Event) (reply : Result StepAnswer NoMemory) (old new : List ℕ)
    (before after : HubSeat) : Type 0 where
  pub others : Front Event
  pub goes_on : front after ≡ made (numbers before) (entered event reply) ++ (others ++ front before)
  pub of_others : own (numbers before) others ≡ []
  pub own_entries : own (numbers before) (front after) ≡ made (numbers before) (entered event reply)
      ++ own (numbers before) (front before)
  pub same_numbers : numbers after ≡ numbers before
  pub answered : IsAnswered (events (others ++ front before)) event reply old new
