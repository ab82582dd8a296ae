use Rattle.world_promises.proofs.EveryPromise.{promised}
use Rattle.world_promises.proofs.laws.every_script_is_promised.Goals as goal

pub returns : goal.returns
returns c = promised
