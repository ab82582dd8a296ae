use Rattle.world_promises.proofs.AnswerLaws.{absences_do}
use Rattle.world_promises.proofs.answer_laws.absences_do.Goals as goal

pub returns : goal.returns
returns c = absences_do
