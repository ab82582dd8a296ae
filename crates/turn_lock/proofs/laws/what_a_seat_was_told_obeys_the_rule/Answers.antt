use Rattle.turn_lock.proofs.RuleTells.{sights_of_one_history, sight_owner, told_apart, sight_made, sight_own, sight_entries}
use Rattle.turn_lock.proofs.laws.what_a_seat_was_told_obeys_the_rule.Goals as goal

pub returns-clause-one_history : goal.returns-clause-one_history
returns-clause-one_history g c = λ s r j k x y at at'. sights_of_one_history _ s r j k x y at at'

pub returns-clause-one_seat : goal.returns-clause-one_seat
returns-clause-one_seat g c = λ s r j k n x y at at' e e'. sight_owner _ s r j k x y n at at' e e'

pub returns-clause-apart : goal.returns-clause-apart
returns-clause-apart g c = λ s r j n v at e. told_apart _ s r j v n at e

pub returns-clause-was_made : goal.returns-clause-was_made
returns-clause-was_made g c = λ s r j n x at e. sight_made _ s r j x n at e

pub returns-clause-own_entries : goal.returns-clause-own_entries
returns-clause-own_entries g c = λ s r j k x y at at'. sight_own _ s r j k x y at at'

pub returns-clause-made_before : goal.returns-clause-made_before
returns-clause-made_before g c = λ s r j x at. sight_entries _ s r j x at
