-- The buffer keeps its length, and the reads that were interrupted took nothing.
use Rattle.std.proofs.Common.{◌≡◌, length}
use Rattle.std.specs.Io.KnownBytes.{Keeps}
use Rattle.wire_streams.proofs.adapters.read_retrying.Given as goal

abbrev pub invariant-loop : goal.invariant-loop
invariant-loop g l = (length l.out ≡ length l.initial.out) × Keeps (g.R.Read.remaining l.initial.reader) (g.R.Read.remaining l.reader)
