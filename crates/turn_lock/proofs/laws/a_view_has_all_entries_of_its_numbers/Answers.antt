use Rattle.turn_lock.proofs.RuleTells.{entries_made, own_whole}
use Rattle.turn_lock.proofs.laws.a_view_has_all_entries_of_its_numbers.Goals as goal

pub returns-clause-own_entries : goal.returns-clause-own_entries
returns-clause-own_entries g c = λ s j k v w r at at'. own_whole _ s r j k v w at at'

pub returns-clause-made_before : goal.returns-clause-made_before
returns-clause-made_before g c = λ s j v r at. entries_made _ s r j v at
