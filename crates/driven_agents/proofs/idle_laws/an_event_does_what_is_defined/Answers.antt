use Rattle.driven_agents.proofs.RunLaws.{going}
use Rattle.driven_agents.proofs.idle_laws.an_event_does_what_is_defined.Goals as goal

pub returns : goal.returns
returns c = λ event h runs. let g = going event h runs in (g.before, g.now)
