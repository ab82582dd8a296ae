use Rattle.std.proofs.Common.{ap, ◌∙◌}
use Rattle.symbolic_runs.specs.Gifts.{bytes, part}
use Rattle.symbolic_runs.specs.Views.{tree}
use Rattle.trace_runs.specs.Views.{own_of}
use Rattle.trace_runs.proofs.ShapeLaws.{taken_so}
use Rattle.trace_runs.proofs.shapes.takes_ticket.Goals as goal

pub returns-then-is_shown : goal.returns-then-is_shown
returns-then-is_shown c = taken_so (own_of c.args.own.now) (tree c.args.message.now) c.args.suid.now c.inner_bytes.result.now c.eq.result c.if-is_shown.ensures (c.inner_bytes.ensures ∙ ap (λ t. bytes (part t 3)) c.shown.ensures) c.eq.ensures
