use Rattle.std.proofs.Common.{ap, sym, ◌∙◌, map, option_map}
use Rattle.symbolic_runs.specs.Views.{tree, trees}
use Rattle.trace_labels.proofs.Judging.{proved_so}
use Rattle.trace_labels.proofs.judge.ends_in.Goals as goal

pub returns-in-Some : goal.returns-in-Some
returns-in-Some c = proved_so (map tree c.args.known.now) c.args.proof.now (tree c.args.term.now) (trees c.in-Some.ends) c.is_last.result (ap (option_map trees) (sym c.in-Some.is) ∙ c.in_ok-ends.ensures) c.is_last.ensures
