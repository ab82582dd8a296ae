use Rattle.nine.proofs.BatchLemmas.{are_whole, next_ones, their_frames}
use Rattle.nine.proofs.frame_laws.a_batch_is_the_next_frames.Goals as goal

pub returns-clause-whole : goal.returns-clause-whole
returns-clause-whole c limit held count size a = (are_whole limit held count size a, their_frames limit held count size a)

pub returns-clause-next : goal.returns-clause-next
returns-clause-next c f stream handed count size has a = next_ones f stream handed count size has a
