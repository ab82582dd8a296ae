use Rattle.world_promises.proofs.SessionLaws.{served}
use Rattle.world_promises.proofs.legality_laws.sessions_are_served.Goals as goal

pub returns : goal.returns
returns c = served
