use Rattle.clean_runs.proofs.Shown.{all_bridged}
use Rattle.clean_runs.proofs.laws.clean_histories_are_symbolic_runs.Goals as goal

pub returns : goal.returns
returns c = all_bridged
