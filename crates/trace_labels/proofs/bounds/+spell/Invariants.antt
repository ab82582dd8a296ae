use Rattle.std.proofs.Common.{◌+◌, map}
use Rattle.symbolic_runs.specs.Views.{tree, trees_of}
use Rattle.symbolic_runs.proofs.Weights.{weight, weight_all}
use Rattle.trace_labels.proofs.bounds.+spell.Given as goal

abbrev pub decreases-bytes_in : goal.decreases-bytes_in
decreases-bytes_in l = weight (tree l.term.now)

abbrev pub decreases-bytes_in_all : goal.decreases-bytes_in_all
decreases-bytes_in_all l = 1 + weight_all (trees_of (map tree l.pieces.now))

abbrev pub decreases-bytes_in_both : goal.decreases-bytes_in_both
decreases-bytes_in_both l = 1 + weight (tree l.first.now) + weight (tree l.second.now)
