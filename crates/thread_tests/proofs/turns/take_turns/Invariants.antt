use Rattle.std.proofs.Common.{◌≡◌, ◌++◌}
use Rattle.turn_lock.specs.Counting.{countdown}
use Rattle.turn_lock.specs.Fronts.{events, own}
use Rattle.turn_lock.specs.Seats.{front, numbers, IsSeatOf}
use Rattle.thread_tests.proofs.turns.take_turns.Given as goal

abbrev pub invariant-loop-call : goal.invariant-loop-call
invariant-loop-call g l = let before = l.initial.seat in
    IsSeatOf l.lock l.seat × (numbers l.seat ≡ numbers before) × (events (own (numbers before) (front l.seat)) ≡ countdown l.call ++ events (own (numbers before) (front before)))
