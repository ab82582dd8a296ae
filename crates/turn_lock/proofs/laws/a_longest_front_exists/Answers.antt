use Rattle.turn_lock.proofs.RuleTells.{longest_exists, home_and_longest}
use Rattle.turn_lock.proofs.laws.a_longest_front_exists.Goals as goal

pub returns-clause-exists : goal.returns-clause-exists
returns-clause-exists g c = λ s r. longest_exists _ s r

pub returns-clause-at_home : goal.returns-clause-at_home
returns-clause-at_home g c = λ s r state home. home_and_longest _ s r state home
