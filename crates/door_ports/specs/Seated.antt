-- For proofs alone: that a seat at hand is a seat of its hub, as one fact.
use Rattle.std.proofs.Props.{props}
use Rattle.std.specs.Prelude.{◌≡◌, ◌<◌, length, Bool, true, false, Option, Some, None}
use Rattle.turn_lock.specs.declared.views.Stage.{Stage}
use Rattle.turn_lock.specs.declared.views.Stage.TheVariants.{Outside, HasTurn}
use Rattle.turn_lock.specs.Seats.{numbers}
use Rattle.agent_hub.specs.declared.hub.Hub.{Hub}
use Rattle.agent_hub.specs.Submits.{HubSeat}

abbrev pub is_outside : Stage → Bool
is_outside Outside = true
is_outside HasTurn = false

-- a seat is at hand, and it is one of the hub
abbrev pub IsHeld : Hub → Option HubSeat → Type 0
IsHeld hub None = ⊥
IsHeld hub (Some seat) =
    (seat.table_id.words ≡ hub.lock.table.shared.table_id.words)
    × (seat.table_id.slots ≡ hub.lock.table.shared.table_id.slots)
    × (seat.table_id.views_name ≡ hub.lock.table.shared.table_id.views_name)
    × (seat.table_id.atom ≡ hub.lock.table.shared.table_id.atom)
    × (seat.table_id.block ≡ hub.lock.table.shared.table_id.block)
    × (seat.table_id.offset ≡ hub.lock.table.shared.table_id.offset)
    × (seat.table_id.slot_names ≡ hub.lock.table.shared.table_id.slot_names)
    × (length seat.me.1 ≡ 0) × (is_outside seat.me.0.stage ≡ true)
    × (length seat.me.0.told.front ≡ 0) × (length seat.me.0.told.numbers ≡ 0)
    × (0 < length (numbers seat))

pub held_once : (hub : Hub) (seat : Option HubSeat) → IsProp (IsHeld hub seat)
held_once hub None = hlevel props
held_once hub (Some seat) = hlevel props
