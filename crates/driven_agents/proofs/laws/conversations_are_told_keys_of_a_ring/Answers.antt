use Rattle.driven_agents.proofs.ToldLaws.{told_ring_keys}
use Rattle.driven_agents.proofs.laws.conversations_are_told_keys_of_a_ring.Goals as goal

pub returns : goal.returns
returns c = told_ring_keys
