use Rattle.world_promises.proofs.AnswerLaws.{answers_do}
use Rattle.world_promises.proofs.answer_laws.answers_do.Goals as goal

pub returns : goal.returns
returns c = answers_do
