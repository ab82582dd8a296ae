use Rattle.world_promises.proofs.ScriptLaws.{all_do}
use Rattle.world_promises.proofs.act_laws.agents_do_what_their_conversations_do.Goals as goal

pub returns : goal.returns
returns c = all_do
