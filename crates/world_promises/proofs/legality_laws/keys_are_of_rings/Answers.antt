use Rattle.world_promises.proofs.Legality.{keys_of_rings}
use Rattle.world_promises.proofs.legality_laws.keys_are_of_rings.Goals as goal

pub returns : goal.returns
returns c = keys_of_rings
