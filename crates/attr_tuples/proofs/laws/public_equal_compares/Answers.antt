use Rattle.attr_tuples.proofs.EqualityLemmas.{public_equal_itself, public_equal_swap, counts_from_equal, equal_from_counts}
use Rattle.attr_tuples.proofs.laws.public_equal_compares.Goals as goal

pub returns-clause-counts : goal.returns-clause-counts
returns-clause-counts c a b = (counts_from_equal a b, equal_from_counts a b)

pub returns-clause-itself : goal.returns-clause-itself
returns-clause-itself c = public_equal_itself

pub returns-clause-either_way : goal.returns-clause-either_way
returns-clause-either_way c = public_equal_swap
