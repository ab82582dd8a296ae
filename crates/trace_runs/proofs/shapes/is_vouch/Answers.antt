use Rattle.std.proofs.Common.{ap, ◌∙◌}
use Rattle.symbolic_runs.specs.Views.{tree}
use Rattle.trace_runs.specs.Views.{own_of}
use Rattle.trace_runs.specs.Shapes.{are_vouch, of_pieces}
use Rattle.trace_runs.proofs.ShapeLaws.{vouch_fits}
use Rattle.trace_runs.proofs.shapes.is_vouch.Goals as goal

pub returns-in-Some : goal.returns-in-Some
returns-in-Some c = c.are_vouch.ensures ∙ ap (of_pieces (are_vouch (own_of c.args.own.now))) c.in-Some.ensures ∙ vouch_fits (own_of c.args.own.now) (tree c.args.answer.now)

pub returns-in-None : goal.returns-in-None
returns-in-None c = ap (of_pieces (are_vouch (own_of c.args.own.now))) c.in-None.ensures ∙ vouch_fits (own_of c.args.own.now) (tree c.args.answer.now)
