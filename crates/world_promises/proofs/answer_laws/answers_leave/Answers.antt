use Rattle.world_promises.proofs.OtherTalks.{answers_leave}
use Rattle.world_promises.proofs.answer_laws.answers_leave.Goals as goal

pub returns : goal.returns
returns c = answers_leave
