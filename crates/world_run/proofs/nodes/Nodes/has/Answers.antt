use Rattle.std.proofs.Common.{ap, ◌∙◌}
use Rattle.std.specs.Prelude.{is_some}
use Rattle.world_run.proofs.NodeLemmas.{is_known, lent_or_not}
use Rattle.world_run.proofs.nodes.Nodes.has.Goals as goal

pub returns : goal.returns
returns c = λ v h. c.is_some.ensures ∙ (lent_or_not c.look.result ∙ (ap is_some c.look.ensures ∙ is_known v c.args.self.now c.args.name.now h))
