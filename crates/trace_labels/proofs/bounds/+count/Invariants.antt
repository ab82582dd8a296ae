use Rattle.std.proofs.Common.{◌+◌, map}
use Rattle.symbolic_runs.specs.Views.{tree, trees_of}
use Rattle.symbolic_runs.proofs.Weights.{weight, weight_all}
use Rattle.trace_labels.proofs.bounds.+count.Given as goal

abbrev pub decreases-terms_in : goal.decreases-terms_in
decreases-terms_in l = weight (tree l.term.now)

abbrev pub decreases-terms_in_all : goal.decreases-terms_in_all
decreases-terms_in_all l = 1 + weight_all (trees_of (map tree l.pieces.now))

abbrev pub decreases-terms_in_both : goal.decreases-terms_in_both
decreases-terms_in_both l = 1 + weight (tree l.first.now) + weight (tree l.second.now)
