use Rattle.agent_laws.proofs.EventLaws.{waiting_read_asks}
use Rattle.agent_laws.proofs.laws.a_waiting_read_has_its_question.Goals as goal

pub returns : goal.returns
returns c = waiting_read_asks
