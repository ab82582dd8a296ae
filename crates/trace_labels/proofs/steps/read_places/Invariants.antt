use Rattle.std.proofs.Common.{length}
use Rattle.trace_labels.proofs.StepLaws.{PlacesSo}
use Rattle.trace_labels.proofs.steps.read_places.Given as goal

-- what was read so far, and what is left, are all of it
abbrev pub invariant-loop-words : goal.invariant-loop-words
invariant-loop-words l = PlacesSo l.initial.words l.words l.places

abbrev pub decreases-loop-words : goal.decreases-loop-words
decreases-loop-words l = length l.words
