use Rattle.world_history.proofs.NamedLemmas.{made_named}
use Rattle.world_history.proofs.laws.names_in_made_scripts_are_known.Goals as goal

pub returns : goal.returns
returns c = made_named
