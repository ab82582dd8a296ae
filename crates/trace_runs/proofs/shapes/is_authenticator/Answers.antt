use Rattle.std.proofs.Common.{ap, ◌∙◌}
use Rattle.symbolic_runs.specs.Views.{tree}
use Rattle.trace_runs.specs.Parts.{found_tree}
use Rattle.trace_runs.specs.Shapes.{are_authenticator, of_pieces}
use Rattle.trace_runs.proofs.ShapeLaws.{authenticator_fits}
use Rattle.trace_runs.proofs.shapes.is_authenticator.Goals as goal

pub returns-in-Some : goal.returns-in-Some
returns-in-Some c = c.are_authenticator.ensures ∙ ap (of_pieces (are_authenticator c.args.number.now (found_tree c.args.challenge))) c.in-Some.ensures ∙ authenticator_fits c.args.number.now (found_tree c.args.challenge) (tree c.args.term.now)

pub returns-in-None : goal.returns-in-None
returns-in-None c = ap (of_pieces (are_authenticator c.args.number.now (found_tree c.args.challenge))) c.in-None.ensures ∙ authenticator_fits c.args.number.now (found_tree c.args.challenge) (tree c.args.term.now)
