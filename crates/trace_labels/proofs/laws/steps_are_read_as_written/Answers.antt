use Rattle.trace_labels.proofs.StepLaws.{step_parts, step_again}
use Rattle.trace_labels.proofs.laws.steps_are_read_as_written.Goals as goal

pub returns-clause-written : goal.returns-clause-written
returns-clause-written c = step_parts

pub returns-clause-read : goal.returns-clause-read
returns-clause-read c = λ words rest step ends h. step_again step words rest ends h
