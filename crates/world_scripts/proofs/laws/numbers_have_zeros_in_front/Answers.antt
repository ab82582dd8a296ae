use Rattle.world_scripts.proofs.NumberLemmas.{number_again, zeros_in_front}
use Rattle.world_scripts.proofs.laws.numbers_have_zeros_in_front.Goals as goal

pub returns-clause-decimal : goal.returns-clause-decimal
returns-clause-decimal c = number_again

pub returns-clause-zeros : goal.returns-clause-zeros
returns-clause-zeros c = zeros_in_front
