use Rattle.side_files.proofs.CallLaws.{none_left}
use Rattle.side_files.proofs.laws.a_withdrawn_conversation_has_no_question.Goals as goal

pub returns : goal.returns
returns c = none_left
