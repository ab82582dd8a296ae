use Rattle.world_scripts.proofs.WholeLemmas.{left_whole}
use Rattle.world_scripts.proofs.script.ScriptLines.rest.Goals as goal

pub returns-clause-whole : goal.returns-clause-whole
returns-clause-whole c = rw (← c.self.view_is) (left_whole c.self.inside.next c.self.inside.left)
