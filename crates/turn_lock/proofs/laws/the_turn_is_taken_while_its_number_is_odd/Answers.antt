use Rattle.turn_lock.proofs.RuleTells.{free_even, taken_odd}
use Rattle.turn_lock.proofs.laws.the_turn_is_taken_while_its_number_is_odd.Goals as goal

pub returns-clause-taken : goal.returns-clause-taken
returns-clause-taken g c = λ s r. taken_odd _ s r

pub returns-clause-free : goal.returns-clause-free
returns-clause-free g c = λ s r. free_even _ s r
