use Rattle.world_promises.proofs.OtherTalks.{absences_leave}
use Rattle.world_promises.proofs.answer_laws.absences_leave.Goals as goal

pub returns : goal.returns
returns c = absences_leave
