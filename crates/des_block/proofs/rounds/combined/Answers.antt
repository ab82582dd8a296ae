use Rattle.std.proofs.Common.{refl}
use Rattle.des_block.specs.Bits.{permuted}
use Rattle.des_block.specs.Tables.{P, S1, S2, S3, S4, S5, S6, S7, S8, selections}
use Rattle.des_block.specs.Rounds.{selected}
use Rattle.des_block.proofs.rounds.combined.Goals as goal

pub returns : goal.returns
unfolding permuted P S1 S2 S3 S4 S5 S6 S7 S8 selections selected
returns c = c.entry.ensures refl
