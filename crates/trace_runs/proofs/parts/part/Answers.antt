use Rattle.std.proofs.Common.{ap, ◌∙◌, map}
use Rattle.symbolic_runs.specs.Gifts.{or_nothing}
use Rattle.symbolic_runs.specs.Views.{tree}
use Rattle.trace_runs.proofs.PartLaws.{piece_found}
use Rattle.trace_runs.proofs.parts.part.Goals as goal

pub returns : goal.returns
returns c = ap or_nothing c.piece_at.ensures ∙ piece_found (tree c.args.term.now) (map tree c.in_ok-list.list.now) c.args.index c.in_ok-list.ensures
