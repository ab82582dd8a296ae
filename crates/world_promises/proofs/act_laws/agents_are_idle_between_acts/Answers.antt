use Rattle.world_promises.proofs.ScriptLaws.{all_seated}
use Rattle.world_promises.proofs.act_laws.agents_are_idle_between_acts.Goals as goal

pub returns : goal.returns
returns c = all_seated
