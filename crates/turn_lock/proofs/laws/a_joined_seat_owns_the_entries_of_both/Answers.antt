use Rattle.std.proofs.Common.{◌≡◌, ◌↔◌, ◌⊎◌, true, sym, subst}
use Rattle.turn_lock.specs.Fronts.{among}
use Rattle.turn_lock.specs.Seats.{numbers}
use Rattle.turn_lock.proofs.RuleTells.{both_numbers}
use Rattle.turn_lock.proofs.laws.a_joined_seat_owns_the_entries_of_both.Goals as goal

pub returns-clause-either : goal.returns-clause-either
returns-clause-either g c = λ one other both entry j. subst (λ ns. among ns entry.seat ≡ true ↔ ((among (numbers one) entry.seat ≡ true) ⊎ (among (numbers other) entry.seat ≡ true))) (sym j.all_numbers) (both_numbers (numbers one) (numbers other) entry.seat)
