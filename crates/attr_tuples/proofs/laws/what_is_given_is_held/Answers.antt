use Rattle.attr_tuples.proofs.FormLaws.{given_is_held}
use Rattle.attr_tuples.proofs.laws.what_is_given_is_held.Goals as goal

pub returns : goal.returns
returns c = given_is_held
