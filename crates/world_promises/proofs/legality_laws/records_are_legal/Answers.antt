use Rattle.world_promises.proofs.Legality.{legal}
use Rattle.world_promises.proofs.legality_laws.records_are_legal.Goals as goal

pub returns : goal.returns
returns c = legal
