-- So many whole frames stand at the front.
use Rattle.nine.specs.Batches.{AreFrames}
use Rattle.nine.proofs.batch.batch_in.Given as goal

abbrev pub invariant-loop-count : goal.invariant-loop-count
invariant-loop-count l = AreFrames l.limit l.held l.count l.size
