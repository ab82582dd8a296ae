use Rattle.world_promises.proofs.PlayLaws.{played}
use Rattle.world_promises.proofs.legality_laws.acts_of_a_script_are_done.Goals as goal

pub returns : goal.returns
returns c = played
