use Rattle.trace_runs.proofs.ToldLaws.{told_is_labelled}
use Rattle.trace_runs.proofs.laws.what_is_told_is_labelled.Goals as goal

pub returns : goal.returns
returns c = told_is_labelled
