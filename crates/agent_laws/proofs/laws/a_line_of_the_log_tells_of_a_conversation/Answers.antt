use Rattle.agent_laws.proofs.ClosedLaws.{all_logged}
use Rattle.agent_laws.proofs.laws.a_line_of_the_log_tells_of_a_conversation.Goals as goal

pub returns : goal.returns
returns c = all_logged
