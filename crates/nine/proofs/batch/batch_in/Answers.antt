use Rattle.std.proofs.Common.{length-drop, sym, arith}
use Rattle.nine.proofs.StreamLaws.{whole_there}
use Rattle.nine.proofs.batch.batch_in.Goals as goal

pub overflow_add-size : goal.overflow_add-size
overflow_add-size c = omega (arith, whole_there c.args.limit _ c.in-Frame.length (sym c.in-Frame.ensures), length-drop c.loop-count.size c.args.held.now, c.loop-count.invariant.within)
