use Rattle.std.proofs.Common.{◌≡◌}
use Rattle.turn_lock.specs.Seats.{IsSame}
use Rattle.turn_lock.proofs.lock.TurnLock.sleep_for_turn.Given as goal

abbrev pub invariant-loop : goal.invariant-loop
invariant-loop g l = IsSame l.initial.seat l.seat × (l.seat.me ≡ l.initial.seat.me)
