use Rattle.std.proofs.Common.{◌∙◌}
use Rattle.std.specs.Ordering.{nat_cmp}
use Rattle.std.specs.BTreeMap.{get}
use Rattle.wire_base.specs.Spans.{has_number}
use Rattle.agent_core.proofs.KnownSteps.{gone_told}
use Rattle.agent_core.proofs.connections.Connections.is_gone.Goals as goal

pub returns : goal.returns
returns c = c.has.ensures ∙ gone_told (has_number c.args.self.now.gone.ranges c.args.conn) (get nat_cmp c.args.self.now.live c.args.conn)
