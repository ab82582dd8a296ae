use Rattle.std.proofs.Common.{arith}
use Rattle.symbolic_runs.specs.Views.{tree}
use Rattle.trace_runs.proofs.DeedLaws.{few_right, many_right}
use Rattle.trace_runs.proofs.deeds.are_right.Goals as goal

pub returns-in_default : goal.returns-in_default
returns-in_default c =
    let right = c.args.right.now in
    few_right right.name.now (tree c.args.challenge.now) right.domain.now right.kind right.first c.args.list.now (omega (arith, c.in_default.len_below))

pub returns-in_default-2 : goal.returns-in_default-2
returns-in_default-2 c =
    let right = c.args.right.now in
    many_right right.name.now (tree c.args.challenge.now) right.domain.now right.kind right.first c.args.list.now (omega (arith, c.in_default.len_at_least))
