use Rattle.symbolic_runs.proofs.StepLaws.{holds_each, each_holds}
use Rattle.symbolic_runs.proofs.term_laws.a_derivation_holds_step_by_step.Goals as goal

pub returns : goal.returns
returns c known ends steps = (holds_each known ends steps, each_holds known ends steps)
