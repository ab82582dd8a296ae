use Rattle.std.proofs.Common.{ap, arith, ◌∙◌}
use Rattle.std.proofs.lemmas.Nat.{and_mask}
use Rattle.des_block.specs.Bits.{binary}
use Rattle.des_block.proofs.TableLaws.{six_is, round_look_up, round_begin, round_end}
use Rattle.des_block.proofs.rounds.round_function.Goals as goal

pub loop-number-init : goal.loop-number-init
loop-number-init c = round_begin c.args.right c.args.key

pub loop-number-preserved : goal.loop-number-preserved
loop-number-preserved c =
    round_look_up c.args.right c.args.key c.loop-number.sum _ c.combined-sum.result c.loop-number.number (omega arith)
    (ap (binary 6) (and_mask _ 6) ∙ six_is c.args.right c.args.key c.widened-wide.result c.loop-number.number (omega arith) c.widened-wide.ensures)
    c.combined-sum.ensures c.loop-number.invariant

pub returns : goal.returns
returns c = c.loop-number.invariant ∙ round_end c.args.right c.args.key c.loop-number.number (omega arith)
