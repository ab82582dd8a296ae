use Rattle.driven_agents.proofs.KeepLaws.{takes_leave_nothing}
use Rattle.driven_agents.proofs.idle_laws.takes_leave_nothing.Goals as goal

pub returns : goal.returns
returns c = takes_leave_nothing
