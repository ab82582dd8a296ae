use Rattle.turn_lock.proofs.RuleTells.{made_below, one_owner}
use Rattle.turn_lock.proofs.laws.a_number_is_in_one_view.Goals as goal

pub returns-clause-one_view : goal.returns-clause-one_view
returns-clause-one_view g c = λ s j k v w n r at at' e e'. one_owner _ s r j k v w n at at' e e'

pub returns-clause-was_made : goal.returns-clause-was_made
returns-clause-was_made g c = λ s j v n r at e. made_below _ s r j v n at e
