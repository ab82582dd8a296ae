use Rattle.std.proofs.Common.{◌∙◌}
use Rattle.trace_labels.proofs.Numbers.{parsed_is, unparsed}
use Rattle.trace_labels.proofs.words.read_number.Goals as goal

pub returns-in-Some : goal.returns-in-Some
returns-in-Some c = c.known_number.ensures.known ∙ parsed_is c.args.word.now c.parse_number.result c.in-Some.number c.in-Some.is c.known_number.ensures.small c.parse_number.ensures

pub returns-in-None : goal.returns-in-None
returns-in-None c = unparsed c.args.word.now c.parse_number.result c.in-None.is c.parse_number.ensures
