use Rattle.turn_lock.proofs.FrontLaws.{events_made}
use Rattle.turn_lock.proofs.SeatFacts.{least_each}
use Rattle.turn_lock.proofs.laws.an_entry_has_the_least_number.Goals as goal

pub returns-clause-each : goal.returns-clause-each
returns-clause-each g c = λ ns done. events_made ns done

pub returns-clause-least : goal.returns-clause-least
returns-clause-least g c = λ ns n done is_mine. least_each ns n done is_mine
