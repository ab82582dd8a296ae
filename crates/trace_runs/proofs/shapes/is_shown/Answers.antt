use Rattle.std.proofs.Common.{ap, ◌∙◌}
use Rattle.symbolic_runs.specs.Views.{tree}
use Rattle.trace_runs.specs.Views.{own_of}
use Rattle.trace_runs.specs.Shapes.{are_shown, of_pieces}
use Rattle.trace_runs.proofs.ShapeLaws.{shown_fits}
use Rattle.trace_runs.proofs.shapes.is_shown.Goals as goal

pub returns-in-Some : goal.returns-in-Some
returns-in-Some c = c.are_shown.ensures ∙ ap (of_pieces (are_shown (own_of c.args.own.now))) c.in-Some.ensures ∙ shown_fits (own_of c.args.own.now) (tree c.args.message.now)

pub returns-in-None : goal.returns-in-None
returns-in-None c = ap (of_pieces (are_shown (own_of c.args.own.now))) c.in-None.ensures ∙ shown_fits (own_of c.args.own.now) (tree c.args.message.now)
