use Rattle.std.proofs.Common.{ap}
use Rattle.attr_tuples.specs.Printing.{printed_text, public_text}
use Rattle.attr_tuples.proofs.laws.public_text_hides_secrets.Goals as goal

pub returns : goal.returns
unfolding public_text
returns c a b e = ap printed_text e
