use Rattle.world_promises.proofs.ScriptLaws.{scripts_are_legal}
use Rattle.world_promises.proofs.act_laws.records_of_scripts_are_legal.Goals as goal

pub returns : goal.returns
returns c = scripts_are_legal
