use Rattle.driven_agents.proofs.TakeLaws.{takes_change_none}
use Rattle.driven_agents.proofs.laws.takes_change_no_conversation.Goals as goal

pub returns : goal.returns
returns c = takes_change_none
