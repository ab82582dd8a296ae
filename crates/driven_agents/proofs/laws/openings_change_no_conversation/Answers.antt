use Rattle.driven_agents.proofs.StillLaws.{openings_change_none}
use Rattle.driven_agents.proofs.laws.openings_change_no_conversation.Goals as goal

pub returns : goal.returns
returns c = openings_change_none
