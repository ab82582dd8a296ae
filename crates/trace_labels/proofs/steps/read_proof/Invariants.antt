use Rattle.std.proofs.Common.{length}
use Rattle.trace_labels.proofs.StepLaws.{HasRead}
use Rattle.trace_labels.proofs.steps.read_proof.Given as goal

-- the steps so far were read of what stands in front
abbrev pub invariant-loop-steps : goal.invariant-loop-steps
invariant-loop-steps l = HasRead l.initial.words l.words l.steps

abbrev pub decreases-loop-steps : goal.decreases-loop-steps
decreases-loop-steps l = length l.words
