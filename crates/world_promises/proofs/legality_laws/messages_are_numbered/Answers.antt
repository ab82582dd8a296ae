use Rattle.world_promises.proofs.NumberLaws.{numbered}
use Rattle.world_promises.proofs.legality_laws.messages_are_numbered.Goals as goal

pub returns : goal.returns
returns c = numbered
