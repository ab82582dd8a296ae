use Rattle.driven_agents.proofs.KeepLaws.{closings_keep_idle}
use Rattle.driven_agents.proofs.idle_laws.a_closing_keeps_an_agent_idle.Goals as goal

pub returns : goal.returns
returns c = closings_keep_idle
