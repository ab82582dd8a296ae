use Rattle.file_tree.proofs.WalkLaws.{at_most, fewer_from_none, none_from_fewer, stays, ends_there}
use Rattle.file_tree.proofs.laws.a_walk_moves_only_to_its_end.Goals as goal

pub returns-clause-at_most : goal.returns-clause-at_most
returns-clause-at_most c = at_most

pub returns-clause-exactly : goal.returns-clause-exactly
returns-clause-exactly c = λ node names. (fewer_from_none node names, none_from_fewer node names)

pub returns-clause-stays : goal.returns-clause-stays
returns-clause-stays c = stays

pub returns-clause-last : goal.returns-clause-last
returns-clause-last c = ends_there
