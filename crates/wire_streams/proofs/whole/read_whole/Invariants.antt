-- What the vector holds came off the source, it is within the limit, and no read failed.
-- Each turn that goes on reads a byte, so the room that is left falls.
use Rattle.std.proofs.Common.{◌+◌, ◌-◌, ◌≡◌, ◌≤◌, length, vec_len}
use Rattle.std.specs.Io.KnownBytes.{Consumes}
use Rattle.wire_streams.proofs.whole.read_whole.Given as goal

abbrev pub invariant-loop-count : goal.invariant-loop-count
invariant-loop-count g l = record {
  consumed : Consumes (g.S.Source.left l.fn.source) (g.S.Source.left l.source) l.bytes.items;
  within : vec_len l.bytes ≤ l.limit;
  steady : g.S.Source.faults l.source ≡ g.S.Source.faults l.fn.source;
  room : length l.chunk ≡ 65536;
}

abbrev pub decreases-loop-count : goal.decreases-loop-count
decreases-loop-count g l = l.limit + 1 - vec_len l.bytes
