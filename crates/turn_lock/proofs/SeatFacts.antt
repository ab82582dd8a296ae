-- What the calls say of seats, from what their steps tell.
use Rattle.std.proofs.Common.{◌≡◌, ℕ, List, [], ◌∷◌, ◌++◌, All, true, sym, ap, ◌∙◌, subst, true≢false, append-nil}
use Rattle.std.proofs.lemmas.Bool.{false_from_ne_true}
use Rattle.std.proofs.lemmas.List.Elements.{All-nil}
use Rattle.turn_lock.specs.declared.views.Entry.{Entry}
use Rattle.turn_lock.specs.Fronts.{among, Front, own, made}
use Rattle.turn_lock.specs.Rule.{newcomer}
use Rattle.turn_lock.specs.Steps.{told_of, kept, cut, Agree}
use Rattle.turn_lock.specs.Seats.{SeatOf, front, numbers, Turned, Parted}
use Rattle.turn_lock.specs.Sentences.{IsLeast}
use Rattle.turn_lock.proofs.FrontLaws.{among_itself, least_among, least_under, made_each, own_append_none, own_after_turn}

module _ {S E : Type 0} where
  -- the seat with the new number
  pub parted : (seat one other : SeatOf S E) (number : ℕ) → Agree (told_of seat.me.0 (newcomer number)) → one.me.0 ≡ kept (told_of seat.me.0 (newcomer number)) → other.me.0 ≡ cut (told_of seat.me.0 (newcomer number))
      → Parted seat one other
  parted seat one other number agree is is' = let ns : List ℕ = number ∷ [] in let log : Front E = agree.log in
      let none_told : own ns log ≡ [] = ap (own ns) (agree.told.goes_on ∙ append-nil agree.told.more) ∙ agree.told.of_others in record {
        same_front = ap (λ v. v.seen.front) is;
        same_numbers = ap (λ v. v.seen.numbers) is;
        other_front = ap (λ v. v.seen.front) is';
        number = number;
        other_numbers = ap (λ v. v.seen.numbers) is';
        is_new = false_from_ne_true (among (numbers seat) number) (λ e. true≢false (sym (among_itself number []) ∙ agree.apart number e));
        no_entries = (own_append_none ns agree.seen.more (front seat) (ap (own ns) (sym agree.seen.goes_on) ∙ none_told)).1;
      }

  -- of the seat's own entries a turn adds those of its events
  pub own_turned : (done : List E) (gives : List E → Type 0) (before after : SeatOf S E) (n : ℕ) → among (numbers before) n ≡ true → Turned done gives before after
      → own (numbers before) (front after) ≡ made (numbers before) done ++ own (numbers before) (front before)
  own_turned done gives before after n is_mine t = ap (own (numbers before)) t.adds ∙ own_after_turn (numbers before) done t.others (front before) n is_mine t.of_others

-- each entry that a turn makes has the least of the seat's numbers
pub least_each : {E : Type 0} (ns : List ℕ) (n : ℕ) (done : List E) → among ns n ≡ true → All (λ (entry : Entry E). IsLeast ns entry.seat) (made ns done)
least_each {E} ns n done is_mine = subst (λ (z : List (Entry E)). All (λ (entry : Entry E). IsLeast ns entry.seat) z) (append-nil (made ns done))
    (made_each (IsLeast ns) ns done [] (least_among ns n is_mine, λ m e. least_under ns m e) (All-nil (λ (entry : Entry E). IsLeast ns entry.seat)))
