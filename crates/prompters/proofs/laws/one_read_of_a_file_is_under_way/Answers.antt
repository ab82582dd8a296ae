use Rattle.prompters.proofs.UnderWayLemmas.{one_under_way}
use Rattle.prompters.proofs.laws.one_read_of_a_file_is_under_way.Goals as goal

pub returns : goal.returns
returns c = one_under_way
