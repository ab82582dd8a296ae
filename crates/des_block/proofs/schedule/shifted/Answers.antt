use Rattle.des_block.proofs.WordLaws.{shifted_word}
use Rattle.des_block.proofs.schedule.shifted.Goals as goal

pub returns-clause-value : goal.returns-clause-value
returns-clause-value c = shifted_word c.args.half c.args.places c.requires.half c.requires.places
