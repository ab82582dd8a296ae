use Rattle.world_promises.proofs.RequestsLaws.{requests_leave}
use Rattle.world_promises.proofs.request_laws.requests_leave_the_others.Goals as goal

pub returns : goal.returns
returns c = requests_leave
