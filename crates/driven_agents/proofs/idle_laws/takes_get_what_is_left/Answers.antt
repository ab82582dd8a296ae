use Rattle.driven_agents.proofs.TakenLaws.{replies_so}
use Rattle.driven_agents.proofs.idle_laws.takes_get_what_is_left.Goals as goal

pub returns : goal.returns
returns c = replies_so
