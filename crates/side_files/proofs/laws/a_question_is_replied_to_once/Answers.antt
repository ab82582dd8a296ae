use Rattle.side_files.proofs.CallLaws.{replied_once}
use Rattle.side_files.proofs.laws.a_question_is_replied_to_once.Goals as goal

pub returns : goal.returns
returns c = replied_once
