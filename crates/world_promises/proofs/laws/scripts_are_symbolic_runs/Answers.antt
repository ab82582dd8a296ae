use Rattle.clean_runs.specs.Statements.{IsBridged}
use Rattle.clean_runs.proofs.Shown.{all_bridged}
use Rattle.world_promises.proofs.EveryScript.{of_scripts}
use Rattle.world_promises.proofs.laws.scripts_are_symbolic_runs.Goals as goal

pub returns : goal.returns
returns c = of_scripts IsBridged all_bridged
