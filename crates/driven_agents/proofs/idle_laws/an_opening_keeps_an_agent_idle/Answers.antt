use Rattle.driven_agents.proofs.KeepLaws.{openings_keep_idle}
use Rattle.driven_agents.proofs.idle_laws.an_opening_keeps_an_agent_idle.Goals as goal

pub returns : goal.returns
returns c = openings_keep_idle
