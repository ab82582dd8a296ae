-- What becomes of a conversation between two moments that a seat of a hub has seen, whatever all other seats did
-- meanwhile: lines of ctl, requests, answers. After factotum(4) of the Plan 9 manual.
use Rattle.std.specs.Prelude.{◌≡◌, ℕ, List, [], ◌∷◌, ◌++◌, Option, Some, Result}
use Rattle.wire_base.specs.declared.bytes.NoMemory.{NoMemory}
use Rattle.key_lists.specs.Lists.{KeyEntry}
use Rattle.turn_lock.specs.Fronts.{events}
use Rattle.turn_lock.specs.Seats.{front}
use Rattle.agent_history.specs.declared.event.Event.{Event}
use Rattle.agent_history.specs.declared.event.StepAnswer.{StepAnswer}
use Rattle.agent_history.specs.Conversations.{chosen_at, conv_of}
use Rattle.agent_history.specs.Histories.{History, deeds}
use Rattle.agent_laws.specs.Laws.{AllSearched}
use Rattle.agent_hub.specs.Submits.{HubSeat, IsSubmitted}

-- a fid has one conversation open behind a history, and behind each of the events that follow
abbrev pub StandsAllAlong : History → List Event → ℕ → ℕ → ℕ → Type 0
StandsAllAlong before [] conn fid conv = conv_of (deeds before) conn fid ≡ Some conv
StandsAllAlong before (event ∷ more) conn fid conv =
    (conv_of (deeds (event ∷ more ++ before)) conn fid ≡ Some conv) × StandsAllAlong before more conn fid conv

-- the key that it has chosen is the same at both ends
abbrev pub KeepsItsKey : History → List Event → Type 0
KeepsItsKey before more = (conn fid conv : ℕ) (key : KeyEntry) → StandsAllAlong before more conn fid conv
    → chosen_at (deeds before) conn fid ≡ Some key → chosen_at (deeds (more ++ before)) conn fid ≡ Some key

-- a submit goes on from the history that its seat had seen, by these events, and each search in it is over the keys
-- of its own event
pub record GoesOn (before after : HubSeat) : Type 0 where
  pub more : List Event
  pub goes_on : events (front after) ≡ more ++ events (front before)
  pub keeps : KeepsItsKey (events (front before)) more
  pub searches : AllSearched (deeds (events (front after)))

abbrev pub SubmitsGoOn : Type 0
SubmitsGoOn = (event : Event) (reply : Result StepAnswer NoMemory) (old new : List ℕ) (before after : HubSeat)
    → IsSubmitted event reply old new before after → GoesOn before after
