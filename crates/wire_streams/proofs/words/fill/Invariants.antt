-- The front of the buffer came off the source, and no call failed.
use Rattle.std.proofs.Common.{◌-◌, ◌≡◌, ◌≤◌, length, take}
use Rattle.std.specs.Io.KnownBytes.{Consumes}
use Rattle.wire_streams.proofs.words.fill.Given as goal

abbrev pub invariant-loop-at : goal.invariant-loop-at
invariant-loop-at g l = record {
  consumed : Consumes (g.S.Source.left l.fn.source) (g.S.Source.left l.source) (take l.at l.out);
  within : l.at ≤ length l.out;
  room : length l.out ≡ length l.fn.out;
  steady : g.S.Source.faults l.source ≡ g.S.Source.faults l.fn.source;
}

abbrev pub decreases-loop-at : goal.decreases-loop-at
decreases-loop-at g l = length l.fn.out - l.at
