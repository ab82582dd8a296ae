use Rattle.std.proofs.Common.{◌∙◌, arith}
use Rattle.des_block.proofs.WordLaws.{bytes_of_word}
use Rattle.des_block.proofs.words.block_of.Goals as goal

pub returns : goal.returns
returns c = c.to_be_bytes.ensures ∙ bytes_of_word c.args.word (omega arith)
