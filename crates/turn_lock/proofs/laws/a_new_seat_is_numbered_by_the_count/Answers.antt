use Rattle.turn_lock.proofs.RuleKept.{comes}
use Rattle.turn_lock.proofs.RuleTells.{nobody_has, no_entries_yet}
use Rattle.turn_lock.proofs.laws.a_new_seat_is_numbered_by_the_count.Goals as goal

pub returns-clause-comes : goal.returns-clause-comes
returns-clause-comes g c = λ s r. comes _ s r

pub returns-clause-nobody_has : goal.returns-clause-nobody_has
returns-clause-nobody_has g c = λ s r j sight at. nobody_has _ s r j sight at

pub returns-clause-no_entries : goal.returns-clause-no_entries
returns-clause-no_entries g c = λ s r j sight at. no_entries_yet _ s r j sight at
