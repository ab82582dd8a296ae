use Rattle.driven_agents.proofs.KeepLaws.{new_nodes_are_idle}
use Rattle.driven_agents.proofs.idle_laws.a_new_node_is_idle.Goals as goal

pub returns : goal.returns
returns c = new_nodes_are_idle
