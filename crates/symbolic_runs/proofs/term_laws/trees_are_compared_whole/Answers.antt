use Rattle.symbolic_runs.proofs.EqualityLaws.{equal_trees, tree_equals}
use Rattle.symbolic_runs.proofs.term_laws.trees_are_compared_whole.Goals as goal

pub returns : goal.returns
returns c a b = (equal_trees a b, tree_equals a b)
