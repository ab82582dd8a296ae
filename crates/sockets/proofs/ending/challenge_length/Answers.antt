use Rattle.std.proofs.Common.{arith}
use Rattle.sockets.proofs.NumberLemmas.{tells_at_end}
use Rattle.sockets.proofs.ending.challenge_length.Goals as goal

pub returns-clause-spelled : goal.returns-clause-spelled
returns-clause-spelled c = tells_at_end c.loop-byte.counted c.loop-byte.byte-index c.args.field.now c.number_read.result (omega (arith, c.loop-byte-test.false)) c.loop-byte.invariant.read c.number_read.ensures
