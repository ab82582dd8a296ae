use Rattle.driven_agents.proofs.KeepLaws.{writes_keep_idle}
use Rattle.driven_agents.proofs.idle_laws.a_write_keeps_an_agent_idle.Goals as goal

pub returns : goal.returns
returns c = writes_keep_idle
