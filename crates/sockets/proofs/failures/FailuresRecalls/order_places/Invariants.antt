use Rattle.std.proofs.Common.{◌≡◌, ◌≤◌, length}
use Rattle.sockets.proofs.failures.FailuresRecalls.order_places.Given as goal

abbrev pub invariant-loop-at : goal.invariant-loop-at
invariant-loop-at l = record {
  first : l.ready ≤ l.at;
  long : length l.places ≡ length l.fn.places;
}
