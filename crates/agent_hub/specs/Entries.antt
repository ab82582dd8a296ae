-- The own entries of a seat, each with the history before it, by which it was answered; and what a call adds to them.
use Rattle.std.specs.Prelude.{◌≡◌, ℕ, List, [], ◌∷◌, ◌++◌, map, if◌then◌else◌}
use Rattle.turn_lock.specs.Fronts.{Front, among, events}
use Rattle.turn_lock.specs.Seats.{front, numbers}
use Rattle.agent_history.specs.declared.event.Event.{Event}
use Rattle.agent_history.specs.declared.event.StepAnswer.{StepAnswer}
use Rattle.agent_history.specs.Histories.{History, answer}
use Rattle.agent_hub.specs.Submits.{HubSeat}

-- an event that was entered, and the history before it
pub record Entered : Type 0 where
  pub before : History
  pub event : Event

-- such an entry by its parts
abbrev pub entry : History → Event → Entered
entry before event = record { before = before; event = event }

-- the entries of a front that were made with one of these numbers, the newest first
abbrev pub entered_by : List ℕ → Front Event → List Entered
entered_by numbers [] = []
entered_by numbers (e ∷ before) =
    if among numbers e.seat then entry (events before) e.event ∷ entered_by numbers before
    else entered_by numbers before

-- what is entered in one turn behind a history, the newest first
abbrev pub in_turn : History → List Event → List Entered
in_turn history [] = []
in_turn history (event ∷ done) = entry (done ++ history) event ∷ in_turn history done

-- what happened, without what was before
abbrev pub events_in : List Entered → List Event
events_in entries = map (λ (e : Entered). e.event) entries

-- the bytes that some entries were answered by, those of the oldest first
abbrev pub text_of : List Entered → List ℕ
text_of [] = []
text_of (e ∷ older) = text_of older ++ (answer e.before e.event).1

-- the newest of these entries was answered so
abbrev pub LastIs : StepAnswer → List Entered → Type 0
LastIs a [] = ⊥
LastIs a (e ∷ older) = (answer e.before e.event).0 ≡ a

-- the front goes on, the numbers are the same, and these entries are the new ones of the seat's own
pub record Adds (mine : List Entered) (before after : HubSeat) : Type 0 where
  pub more : Front Event
  pub goes_on : front after ≡ more ++ front before
  pub same_numbers : numbers after ≡ numbers before
  pub own_entries : entered_by (numbers before) (front after) ≡ mine ++ entered_by (numbers before) (front before)
