use Rattle.std.proofs.Common.{ap, ◌∙◌}
use Rattle.symbolic_runs.specs.Views.{tree}
use Rattle.trace_runs.specs.Views.{own_of}
use Rattle.trace_runs.specs.Parts.{found_tree}
use Rattle.trace_runs.specs.Shapes.{are_answer, of_pieces}
use Rattle.trace_runs.proofs.ShapeLaws.{answer_fits}
use Rattle.trace_runs.proofs.shapes.is_answer.Goals as goal

pub returns-in-Some : goal.returns-in-Some
returns-in-Some c = c.are_answer.ensures ∙ ap (of_pieces (are_answer (own_of c.args.own.now) (found_tree c.args.challenge))) c.in-Some.ensures ∙ answer_fits (own_of c.args.own.now) (found_tree c.args.challenge) (tree c.args.answer.now)

pub returns-in-None : goal.returns-in-None
returns-in-None c = ap (of_pieces (are_answer (own_of c.args.own.now) (found_tree c.args.challenge))) c.in-None.ensures ∙ answer_fits (own_of c.args.own.now) (found_tree c.args.challenge) (tree c.args.answer.now)
