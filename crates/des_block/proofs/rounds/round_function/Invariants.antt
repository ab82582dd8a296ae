use Rattle.std.proofs.Common.{◌≡◌}
use Rattle.des_block.specs.Bits.{binary, permuted}
use Rattle.des_block.specs.Tables.{P, selections}
use Rattle.des_block.specs.Rounds.{all_selected}
use Rattle.des_block.proofs.WordLaws.{begun}
use Rattle.des_block.proofs.TableLaws.{mixed}
use Rattle.des_block.proofs.rounds.round_function.Given as goal

abbrev pub invariant-loop-number : goal.invariant-loop-number
invariant-loop-number l = binary 32 l.sum ≡ permuted P (begun 8 l.number (all_selected selections (mixed l.right l.key)))
