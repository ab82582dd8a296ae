use Rattle.clean_runs.specs.Statements.{IsSecret}
use Rattle.clean_runs.proofs.Shown.{all_secret}
use Rattle.world_promises.proofs.EveryScript.{of_scripts}
use Rattle.world_promises.proofs.laws.scripts_keep_their_secrets.Goals as goal

pub returns : goal.returns
returns c = of_scripts IsSecret all_secret
