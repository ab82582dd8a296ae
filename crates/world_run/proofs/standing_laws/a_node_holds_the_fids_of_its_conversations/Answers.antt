use Rattle.world_run.proofs.ListLemmas.{fids_named}
use Rattle.world_run.proofs.standing_laws.a_node_holds_the_fids_of_its_conversations.Goals as goal

pub returns : goal.returns
returns c = λ node talks. fids_named node talks
