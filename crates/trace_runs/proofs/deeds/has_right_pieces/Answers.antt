use Rattle.std.proofs.Common.{ap, ◌∙◌}
use Rattle.std.proofs.lemmas.Result.{IfOk-weaker}
use Rattle.symbolic_runs.specs.Views.{tree}
use Rattle.trace_runs.specs.Deeds.{are_right}
use Rattle.trace_runs.specs.Shapes.{of_pieces}
use Rattle.trace_runs.proofs.DeedLaws.{right_fits}
use Rattle.trace_runs.proofs.deeds.has_right_pieces.Goals as goal

pub returns-in-Some : goal.returns-in-Some
returns-in-Some c =
    let right = c.args.right.now in
    IfOk-weaker c.are_right.result _ _
    (λ so h. h ∙ ap (of_pieces (are_right right.name.now (tree c.args.challenge.now) right.domain.now right.kind right.first)) c.in-Some.ensures
    ∙ right_fits right.name.now (tree c.args.challenge.now) right.domain.now right.kind right.first (tree c.args.request.now))
    c.are_right.ensures

pub returns-in-None : goal.returns-in-None
returns-in-None c =
    let right = c.args.right.now in
    ap (of_pieces (are_right right.name.now (tree c.args.challenge.now) right.domain.now right.kind right.first)) c.in-None.ensures
    ∙ right_fits right.name.now (tree c.args.challenge.now) right.domain.now right.kind right.first (tree c.args.request.now)
