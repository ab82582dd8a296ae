-- For the tests of this crate alone: what two threads counted, from what their turns and the join of their seats tell.
use Rattle.std.proofs.Common.{◌≡◌, ℕ, List, [], ◌++◌, ap, ◌∙◌, append-nil}
use Rattle.turn_lock.specs.Counting.{countdown, IsCountedByTwo}
use Rattle.turn_lock.specs.Fronts.{Front, events, own, Grows}
use Rattle.turn_lock.specs.Seats.{SeatOf, front, numbers, Parted, Joined}
use Rattle.turn_lock.proofs.FrontLaws.{own_of_grown}

module _ {S : Type 0} where
  -- the calls of one thread, in whatever goes on from its seat
  pub by_thread : (turns : ℕ) (start end both : SeatOf S ℕ) → front start ≡ [] → numbers end ≡ numbers start
      → events (own (numbers start) (front end)) ≡ countdown turns ++ events (own (numbers start) (front start))
      → Grows (numbers end) (front end) (front both) → events (own (numbers end) (front both)) ≡ countdown turns
  by_thread turns start end both none same calls grows = ap events (own_of_grown (numbers end) (front end) (front both) grows)
      ∙ (ap (λ (ns : List ℕ). events (own ns (front end))) same
      ∙ (calls ∙ (ap (λ (seen : Front ℕ). countdown turns ++ events (own (numbers start) seen)) none ∙ append-nil (countdown turns))))

  -- two seats of one that had seen nothing took so many turns each, and were joined
  pub counted : (turns : ℕ) (first one other one_end other_end both : SeatOf S ℕ) → front first ≡ [] → Parted first one other
      → numbers one_end ≡ numbers one → events (own (numbers one) (front one_end)) ≡ countdown turns ++ events (own (numbers one) (front one))
      → numbers other_end ≡ numbers other → events (own (numbers other) (front other_end)) ≡ countdown turns ++ events (own (numbers other) (front other))
      → Joined one_end other_end both → IsCountedByTwo turns (numbers both) (front both)
  counted turns first one other one_end other_end both none p same calls same' calls' j = record {
    one = numbers one_end;
    other = numbers other_end;
    all_numbers = j.all_numbers;
    apart = j.apart;
    by_one = by_thread turns one one_end both (p.same_front ∙ none) same calls j.from_one;
    by_other = by_thread turns other other_end both (p.other_front ∙ none) same' calls' j.from_other;
  }
