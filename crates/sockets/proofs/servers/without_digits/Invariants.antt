use Rattle.std.proofs.Common.{◌≡◌, ◌≤◌, length, reverse}
use Rattle.sockets.specs.Servers.{behind_digits}
use Rattle.sockets.proofs.servers.without_digits.Given as goal

abbrev pub invariant-loop-item : goal.invariant-loop-item
invariant-loop-item l = record {
  same : behind_digits (reverse l.item) ≡ behind_digits (reverse l.fn.item);
  shorter : length l.item ≤ length l.fn.item;
}

abbrev pub decreases-loop-item : goal.decreases-loop-item
decreases-loop-item l = length l.item
