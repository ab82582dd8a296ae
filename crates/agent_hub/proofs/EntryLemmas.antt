-- What a submit adds to the own entries of a seat.
use Rattle.std.proofs.Common.{◌≡◌, ℕ, List, [], ◌∷◌, ◌++◌, true, refl, sym, ap, subst, ◌∙◌, append_assoc}
use Rattle.std.specs.Prelude.{Result, Ok, Err}
use Rattle.wire_base.specs.declared.bytes.NoMemory.{NoMemory}
use Rattle.turn_lock.specs.Fronts.{Front, among, events, made}
use Rattle.turn_lock.specs.Seats.{front, numbers}
use Rattle.agent_history.specs.declared.event.Event.{Event}
use Rattle.agent_history.specs.declared.event.StepAnswer.{StepAnswer}
use Rattle.agent_history.specs.Histories.{History}
use Rattle.agent_hub.specs.Submits.{HubSeat, IsSubmitted}
use Rattle.agent_hub.specs.Entries.{Adds, Entered, entered_by, entry}
use Rattle.agent_hub.proofs.FrontFacts.{entered_behind, entered_made}

pub adds_none : (seat : HubSeat) → Adds [] seat seat
adds_none seat = record { more = []; goes_on = refl; same_numbers = refl; own_entries = refl }

-- what was made before the event
abbrev pub before_it : (event : Event) (reply : Result StepAnswer NoMemory) (old new : List ℕ) (before after : HubSeat) → IsSubmitted event reply old new before after → History
before_it event reply old new before after s = events (s.others ++ front before)

longer : (first before after new others more : Front Event) → before ≡ more ++ first → after ≡ new ++ (others ++ before) → after ≡ (new ++ (others ++ more)) ++ first
longer first before after new others more old now = now ∙ ap (λ (f : Front Event). new ++ (others ++ f)) old ∙ ap (λ (f : Front Event). new ++ f) (sym (append_assoc others more first)) ∙ sym (append_assoc new (others ++ more) first)

-- it was entered
pub adds_one : (event : Event) (a : StepAnswer) (old new : List ℕ) (first before after : HubSeat) (older : List Entered) (n : ℕ) → among (numbers before) n ≡ true → Adds older first before
    → (s : IsSubmitted event (Ok a) old new before after) → Adds (entry (before_it event (Ok a) old new before after s) event ∷ older) first after
adds_one event a old new first before after older n is_mine d s =
    let ns = numbers before in
    let e : Entered = entry (events (s.others ++ front before)) event in
    let own : entered_by ns (front after) ≡ e ∷ entered_by ns (front before) = ap (entered_by ns) s.goes_on ∙ entered_made ns (event ∷ []) (s.others ++ front before) n is_mine
    ∙ ap (λ (l : List Entered). e ∷ l) (entered_behind ns s.others (front before) s.of_others) in
    record {
      more = made ns (event ∷ []) ++ (s.others ++ d.more);
      goes_on = longer (front first) (front before) (front after) (made ns (event ∷ [])) s.others d.more d.goes_on s.goes_on;
      same_numbers = s.same_numbers ∙ d.same_numbers;
      own_entries = subst (λ (ms : List ℕ). entered_by ms (front after) ≡ e ∷ entered_by ms (front before)) d.same_numbers own ∙ ap (λ (l : List Entered). e ∷ l) d.own_entries;
    }

-- memory was short
pub adds_still : (event : Event) (x : NoMemory) (old new : List ℕ) (first before after : HubSeat) (older : List Entered) → Adds older first before → IsSubmitted event (Err x) old new before after → Adds older first after
adds_still event x old new first before after older d s =
    let ns = numbers before in
    let own : entered_by ns (front after) ≡ entered_by ns (front before) = ap (entered_by ns) s.goes_on ∙ entered_behind ns s.others (front before) s.of_others in
    record {
      more = s.others ++ d.more;
      goes_on = longer (front first) (front before) (front after) [] s.others d.more d.goes_on s.goes_on;
      same_numbers = s.same_numbers ∙ d.same_numbers;
      own_entries = subst (λ (ms : List ℕ). entered_by ms (front after) ≡ entered_by ms (front before)) d.same_numbers own ∙ d.own_entries;
    }
