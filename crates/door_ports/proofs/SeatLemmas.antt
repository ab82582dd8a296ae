-- A seat at hand is a seat of its hub.
use Rattle.std.proofs.Common.{◌≡◌, ◌<◌, ℕ, List, [], ◌∷◌, length, true, Some, refl, ap, eq-eqb, arith}
use Rattle.std.specs.Prelude.{◌||◌}
use Rattle.turn_lock.specs.declared.views.Stage.{Stage}
use Rattle.turn_lock.specs.declared.views.Stage.TheVariants.{Outside, HasTurn}
use Rattle.turn_lock.specs.Fronts.{among}
use Rattle.turn_lock.specs.Seats.{numbers}
use Rattle.agent_hub.specs.declared.hub.Hub.{Hub}
use Rattle.agent_hub.specs.Submits.{HubSeat, IsSeatOf}
use Rattle.door_ports.specs.Seated.{IsHeld, is_outside}

empty_so : {X : Type 0} (xs : List X) → length xs ≡ 0 → xs ≡ []
empty_so [] e = refl
empty_so (x ∷ xs) e = absurd (omega (arith, e))

outside_so : (stage : Stage) → is_outside stage ≡ true → stage ≡ Outside
outside_so Outside e = refl
outside_so HasTurn e = absurd cc

some_there : (ns : List ℕ) (n : ℕ) → among ns n ≡ true → 0 < length ns
some_there [] n e = absurd cc
some_there (m ∷ ns) n e = omega arith

first_there : (ns : List ℕ) → 0 < length ns → (n : ℕ) × (among ns n ≡ true)
first_there [] some = absurd (omega (arith, some))
first_there (m ∷ ns) some = (m, ap (λ b. b || among ns m) (eq-eqb m m refl))

pub held_so : (hub : Hub) (seat : HubSeat) → IsSeatOf hub seat → IsHeld hub (Some seat)
held_so hub seat s = (
  (λ i. (s.of_table i).words),
  (λ i. (s.of_table i).slots),
  (λ i. (s.of_table i).views_name),
  (λ i. (s.of_table i).atom),
  (λ i. (s.of_table i).block),
  (λ i. (s.of_table i).offset),
  (λ i. (s.of_table i).slot_names),
  ap length s.no_slot,
  ap is_outside s.no_turn,
  (λ i. length (s.nothing_told i).front),
  (λ i. length (s.nothing_told i).numbers),
  some_there (numbers seat) s.numbered.0 s.numbered.1,
)

pub seat_so : (hub : Hub) (seat : HubSeat) → IsHeld hub (Some seat) → IsSeatOf hub seat
seat_so hub seat (a, b, c, d, e, f, g, slot, turn, front, told, some) = record {
  of_table = λ i. record { words = a i; slots = b i; views_name = c i; atom = d i; block = e i; offset = f i; slot_names = g i };
  no_slot = empty_so seat.me.1 slot;
  no_turn = outside_so seat.me.0.stage turn;
  nothing_told = λ i. record { front = empty_so seat.me.0.told.front front i; numbers = empty_so seat.me.0.told.numbers told i };
  numbered = first_there (numbers seat) some;
}
