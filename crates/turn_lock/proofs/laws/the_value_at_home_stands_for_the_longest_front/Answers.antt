use Rattle.turn_lock.proofs.RuleTells.{at_home, stands_for_longest}
use Rattle.turn_lock.proofs.laws.the_value_at_home_stands_for_the_longest_front.Goals as goal

pub returns-clause-at_home : goal.returns-clause-at_home
returns-clause-at_home g c = λ s r no_turn. at_home _ s r no_turn

pub returns-clause-stands : goal.returns-clause-stands
returns-clause-stands g c = λ s state log r home l. stands_for_longest _ s r state log home l
