use Rattle.world_scripts.proofs.LengthLemmas.{script_short}
use Rattle.world_scripts.proofs.MadeLemmas.{made_read}
use Rattle.world_scripts.proofs.laws.made_scripts_are_read.Goals as goal

pub returns-clause-short : goal.returns-clause-short
returns-clause-short c = script_short

pub returns-clause-read : goal.returns-clause-read
returns-clause-read c = made_read
