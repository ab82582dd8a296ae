use Rattle.attr_tuples.proofs.PrintedLemmas.{printed_read}
use Rattle.attr_tuples.proofs.laws.printed_tuples_are_read.Goals as goal

pub returns : goal.returns
returns c = printed_read
