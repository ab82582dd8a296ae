use Rattle.world_promises.proofs.Legality.{all_legal}
use Rattle.world_promises.proofs.legality_laws.worlds_are_legal.Goals as goal

pub returns : goal.returns
returns c = all_legal
