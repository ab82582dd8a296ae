use Rattle.world_promises.proofs.MadeRuns.{made_passes}
use Rattle.world_promises.proofs.laws.no_made_script_is_refused.Goals as goal

pub returns : goal.returns
returns c = made_passes
