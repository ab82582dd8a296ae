use Rattle.attr_tuples.proofs.EqualityLemmas.{public_equal_left, public_equal_right}
use Rattle.attr_tuples.proofs.laws.public_equal_hides_secrets.Goals as goal

pub returns-clause-left : goal.returns-clause-left
returns-clause-left c = public_equal_left

pub returns-clause-right : goal.returns-clause-right
returns-clause-right c = public_equal_right
