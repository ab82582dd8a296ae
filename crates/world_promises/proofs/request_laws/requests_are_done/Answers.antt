use Rattle.world_promises.proofs.RequestsLaws.{requests_do}
use Rattle.world_promises.proofs.request_laws.requests_are_done.Goals as goal

pub returns : goal.returns
returns c = requests_do
