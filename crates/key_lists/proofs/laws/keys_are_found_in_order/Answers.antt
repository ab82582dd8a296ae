use Rattle.key_lists.proofs.FindLaws.{first_serves, found_in_turn, next_greater, next_serves}
use Rattle.key_lists.proofs.laws.keys_are_found_in_order.Goals as goal

pub returns-clause-first : goal.returns-clause-first
returns-clause-first c = first_serves

pub returns-clause-next : goal.returns-clause-next
returns-clause-next c = next_serves

pub returns-clause-greater : goal.returns-clause-greater
returns-clause-greater c = next_greater

pub returns-clause-in_turn : goal.returns-clause-in_turn
returns-clause-in_turn c = found_in_turn
