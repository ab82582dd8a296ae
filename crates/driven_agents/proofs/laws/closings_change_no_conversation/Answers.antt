use Rattle.driven_agents.proofs.WriteLaws.{closings_change_none}
use Rattle.driven_agents.proofs.laws.closings_change_no_conversation.Goals as goal

pub returns : goal.returns
returns c = closings_change_none
