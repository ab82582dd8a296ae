use Rattle.world_promises.proofs.BegunLaws.{starts_well}
use Rattle.world_promises.proofs.talk_laws.what_was_started_may_start.Goals as goal

pub returns : goal.returns
returns c = starts_well
