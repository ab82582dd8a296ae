-- The front of the piece was written, no call failed, and before the first write the sink is
-- as it was.
use Rattle.std.proofs.Common.{◌-◌, ◌≡◌, ◌≤◌, length, take}
use Rattle.wire_streams.specs.Streams.{Gains}
use Rattle.wire_streams.proofs.whole.write_all.Given as goal

abbrev pub invariant-loop-at : goal.invariant-loop-at
invariant-loop-at g l = record {
  gained : Gains (g.W.Sink.holds l.fn.sink) (g.W.Sink.holds l.sink) (take l.at l.piece);
  within : l.at ≤ length l.piece;
  steady : g.W.Sink.faults l.sink ≡ g.W.Sink.faults l.fn.sink;
  untouched : l.at ≡ 0 → l.sink ≡ l.fn.sink;
}

abbrev pub decreases-loop-at : goal.decreases-loop-at
decreases-loop-at g l = length l.piece - l.at
