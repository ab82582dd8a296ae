use Rattle.world_promises.proofs.ScriptLaws.{scripts_run}
use Rattle.world_promises.proofs.act_laws.agents_of_a_script_run.Goals as goal

pub returns : goal.returns
returns c = scripts_run
