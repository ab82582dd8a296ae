use Rattle.world_promises.proofs.EveryScript.{fronts_are_legal}
use Rattle.world_promises.proofs.laws.fronts_of_records_are_legal.Goals as goal

pub returns : goal.returns
returns c = fronts_are_legal
