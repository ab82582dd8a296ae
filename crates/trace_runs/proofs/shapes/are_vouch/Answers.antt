use Rattle.std.proofs.Common.{arith}
use Rattle.trace_runs.specs.Views.{own_of}
use Rattle.trace_runs.proofs.ShapeLaws.{few_vouch, many_vouch}
use Rattle.trace_runs.proofs.shapes.are_vouch.Goals as goal

pub returns-in_default : goal.returns-in_default
returns-in_default c = few_vouch (own_of c.args.own.now) c.args.list.now (omega (arith, c.in_default.len_below))

pub returns-in_default-2 : goal.returns-in_default-2
returns-in_default-2 c = many_vouch (own_of c.args.own.now) c.args.list.now (omega (arith, c.in_default.len_at_least))
