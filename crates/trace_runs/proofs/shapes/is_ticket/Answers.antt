use Rattle.std.proofs.Common.{ap, ◌∙◌}
use Rattle.symbolic_runs.specs.Views.{tree}
use Rattle.trace_runs.specs.Parts.{found_tree}
use Rattle.trace_runs.specs.Shapes.{are_ticket, of_pieces}
use Rattle.trace_runs.proofs.ShapeLaws.{ticket_fits}
use Rattle.trace_runs.proofs.shapes.is_ticket.Goals as goal

pub returns-in-Some : goal.returns-in-Some
returns-in-Some c = c.are_ticket.ensures ∙ ap (of_pieces (are_ticket c.args.number.now (found_tree c.args.challenge))) c.in-Some.ensures ∙ ticket_fits c.args.number.now (found_tree c.args.challenge) (tree c.args.term.now)

pub returns-in-None : goal.returns-in-None
returns-in-None c = ap (of_pieces (are_ticket c.args.number.now (found_tree c.args.challenge))) c.in-None.ensures ∙ ticket_fits c.args.number.now (found_tree c.args.challenge) (tree c.args.term.now)
