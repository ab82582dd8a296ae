use Rattle.std.proofs.Common.{ap, ◌∙◌}
use Rattle.symbolic_runs.specs.Views.{tree}
use Rattle.trace_runs.specs.Shapes.{are_challenge, of_pieces}
use Rattle.trace_runs.proofs.ShapeLaws.{challenge_fits}
use Rattle.trace_runs.proofs.shapes.is_behind_bytes.Goals as goal

pub returns-in-Some : goal.returns-in-Some
returns-in-Some c = c.are_challenge.ensures ∙ ap (of_pieces are_challenge) c.in-Some.ensures ∙ challenge_fits (tree c.args.answer.now)

pub returns-in-None : goal.returns-in-None
returns-in-None c = ap (of_pieces are_challenge) c.in-None.ensures ∙ challenge_fits (tree c.args.answer.now)
