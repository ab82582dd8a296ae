use Rattle.turn_lock.proofs.SeatFacts.{own_turned}
use Rattle.turn_lock.proofs.laws.a_turn_adds_its_own_entries_alone.Goals as goal

pub returns : goal.returns
returns g c = λ call after reply came went n is_mine t. own_turned (g.C.TurnCall.entries call reply) (λ history. g.C.TurnCall.gives call history reply after) came went n is_mine t
