use Rattle.world_promises.proofs.ScriptLaws.{scripts_do}
use Rattle.world_promises.proofs.act_laws.agents_of_a_script_do_what_their_conversations_do.Goals as goal

pub returns : goal.returns
returns c = scripts_do
