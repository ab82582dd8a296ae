use Rattle.std.proofs.Common.{◌<◌}
use Rattle.std.proofs.lemmas.List.Elements.{All-from_get_or}
use Rattle.des_block.proofs.WordLaws.{word_bits}
use Rattle.des_block.proofs.words.word_of.Goals as goal

pub returns-clause-block : goal.returns-clause-block
returns-clause-block c = record { whole = c.told-block; bytes = All-from_get_or (λ n. n < 256) c.args.block.now 0 (λ i l. c.fits-block i) }

pub returns-clause-value : goal.returns-clause-value
returns-clause-value c = word_bits c.args.block.now c.from_be_bytes.result c.told-block (returns-clause-block c).bytes c.from_be_bytes.ensures
