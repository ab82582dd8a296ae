use Rattle.std.proofs.Common.{arith}
use Rattle.conv_challenge.proofs.NumberLemmas.{few_are_small}
use Rattle.conv_challenge.proofs.numbers.number_of.Goals as goal

pub overflow_mul-number : goal.overflow_mul-number
overflow_mul-number c = omega (arith, c.loop-digit.invariant.small, few_are_small c.loop-digit.digit-index (omega (arith, c.requires, c.loop-digit-test.true)))
