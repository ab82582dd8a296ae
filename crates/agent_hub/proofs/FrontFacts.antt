-- Own entries of a front, and of the one that others made longer.
use Rattle.std.proofs.Common.{◌≡◌, ℕ, List, [], ◌∷◌, ◌++◌, length, true, false, cond, sym, refl, ap, ◌∙◌, inl, inr, arith}
use Rattle.std.proofs.lemmas.Bool.{cases_Bool}
use Rattle.std.proofs.lemmas.List.Elements.{filter-append}
use Rattle.turn_lock.specs.declared.views.Entry.{Entry}
use Rattle.turn_lock.specs.Fronts.{Front, among, events, own, made}
use Rattle.turn_lock.proofs.FrontLaws.{least_among, made_events, made_of_own, own_append}
use Rattle.agent_history.specs.declared.event.Event.{Event}
use Rattle.agent_hub.specs.Entries.{Entered, entered_by, entry, in_turn}

-- no entry has a number of theirs
none_first : (ns : List ℕ) (x : Entry Event) (xs : Front Event) → own ns (x ∷ xs) ≡ [] → (among ns x.seat ≡ false) × (own ns xs ≡ [])
none_first ns x xs here = elim (cases_Bool (among ns x.seat)) [
  | inl e ↦ absurd (let n : cond true (x ∷ own ns xs) (own ns xs) ≡ [] = ap (λ b. cond b (x ∷ own ns xs) (own ns xs)) (sym e) ∙ here in let m = ap length n in omega (arith, m))
  | inr e ↦ (e, ap (λ b. cond b (x ∷ own ns xs) (own ns xs)) (sym e) ∙ here)
]

-- ---- what others made

pub own_behind : (ns : List ℕ) (others front : Front Event) → own ns others ≡ [] → own ns (others ++ front) ≡ own ns front
own_behind ns others front none = filter-append (λ (e : Entry Event). among ns e.seat) others front ∙ ap (λ z. z ++ own ns front) none

pub entered_behind : (ns : List ℕ) (others front : Front Event) → own ns others ≡ [] → entered_by ns (others ++ front) ≡ entered_by ns front
entered_behind ns [] front none = refl
entered_behind ns (x ∷ xs) front none =
    let first = none_first ns x xs none in
    rw first.0 (entered_behind ns xs front first.1)

-- ---- what a turn makes

pub own_made : (ns : List ℕ) (done : List Event) (front : Front Event) (n : ℕ) → among ns n ≡ true → own ns (made ns done ++ front) ≡ made ns done ++ own ns front
own_made ns done front n is_mine = own_append ns (made ns done) front ∙ ap (λ z. z ++ own ns front) (made_of_own ns done (least_among ns n is_mine))

pub entered_made : (ns : List ℕ) (done : List Event) (front : Front Event) (n : ℕ) → among ns n ≡ true → entered_by ns (made ns done ++ front) ≡ in_turn (events front) done ++ entered_by ns front
entered_made ns [] front n is_mine = refl
entered_made ns (event ∷ done) front n is_mine = rw (least_among ns n is_mine, made_events ns done front) (ap (λ (l : List Entered). entry (done ++ events front) event ∷ l) (entered_made ns done front n is_mine))
