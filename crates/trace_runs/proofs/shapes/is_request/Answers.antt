use Rattle.std.proofs.Common.{ap, ◌∙◌}
use Rattle.symbolic_runs.specs.Views.{tree}
use Rattle.trace_runs.specs.Parts.{found_tree}
use Rattle.trace_runs.specs.Shapes.{are_request, of_pieces}
use Rattle.trace_runs.proofs.ShapeLaws.{request_fits}
use Rattle.trace_runs.proofs.shapes.is_request.Goals as goal

pub returns-in-Some : goal.returns-in-Some
returns-in-Some c = c.are_request.ensures ∙ ap (of_pieces (are_request c.args.kind.now (found_tree c.args.challenge))) c.in-Some.ensures ∙ request_fits c.args.kind.now (found_tree c.args.challenge) (tree c.args.term.now)

pub returns-in-None : goal.returns-in-None
returns-in-None c = ap (of_pieces (are_request c.args.kind.now (found_tree c.args.challenge))) c.in-None.ensures ∙ request_fits c.args.kind.now (found_tree c.args.challenge) (tree c.args.term.now)
