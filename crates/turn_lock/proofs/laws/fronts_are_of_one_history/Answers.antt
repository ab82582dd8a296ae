use Rattle.turn_lock.proofs.RuleTells.{one_history}
use Rattle.turn_lock.proofs.laws.fronts_are_of_one_history.Goals as goal

pub returns : goal.returns
returns g c = λ s j k v w r at at'. one_history _ s r j k v w at at'
