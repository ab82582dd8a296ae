use Rattle.std.proofs.Common.{◌∙◌}
use Rattle.world_program.proofs.PlayLemmas.{steps_counted}
use Rattle.world_program.proofs.summary.count_messages.Goals as goal

pub returns : goal.returns
returns c = c.count.ensures ∙ steps_counted c.args.steps.now
