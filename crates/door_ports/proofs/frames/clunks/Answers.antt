use Rattle.std.proofs.Common.{arith}
use Rattle.nine.specs.Messages.{frame}
use Rattle.door_ports.proofs.frames.clunks.Goals as goal

pub under-requires-clause-short : goal.under-requires-clause-short
unfolding frame
under-requires-clause-short c = omega (arith)
