use Rattle.turn_lock.proofs.RuleTells.{one_turn, turn_longest, turn_out}
use Rattle.turn_lock.proofs.laws.one_view_has_the_turn.Goals as goal

pub returns-clause-one : goal.returns-clause-one
returns-clause-one g c = λ s j k r h h'. one_turn _ s r j k h h'

pub returns-clause-longest : goal.returns-clause-longest
returns-clause-longest g c = λ s j v r at is. turn_longest _ s r j v at is

pub returns-clause-slot_out : goal.returns-clause-slot_out
returns-clause-slot_out g c = λ s j r h. turn_out _ s r j h
