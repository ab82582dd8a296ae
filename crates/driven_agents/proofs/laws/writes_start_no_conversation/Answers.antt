use Rattle.driven_agents.proofs.WriteLaws.{writes_start_none}
use Rattle.driven_agents.proofs.laws.writes_start_no_conversation.Goals as goal

pub returns : goal.returns
returns c = writes_start_none
