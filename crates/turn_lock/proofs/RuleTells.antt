-- What the rule says of any two views, of the turn, and of the slot.
use Rattle.std.proofs.Common.{◌≡◌, ◌≢◌, ℕ, ◌%◌, ◌<◌, ◌≤◌, ◌↔◌, List, [], ◌∷◌, ◌++◌, length, All, true, false, Option, Some, None, slice_index, sym, ap, ◌∙◌, subst, ⊎_elim, ◌⊎◌, inl, inr, arith, length-append}
use mathlib.Core.Logic.{dite}
use mathlib.Core.Option.{some, none, some-injective, some-ne-none}
use mathlib.Core.Option as maybe
use native.Mathlib.Decide.{dec_le, ℕ_discrete}
use Rattle.atomic_table.specs.Table.{State}
use Rattle.std.proofs.lemmas.Bool.{false_from_ne_true}
use Rattle.std.proofs.lemmas.List.Elements.{All-tail}
use Rattle.turn_lock.specs.declared.views.Entry.{Entry}
use Rattle.turn_lock.specs.declared.views.Sight.{Sight}
use Rattle.turn_lock.specs.declared.views.Stage.TheVariants.{HasTurn}
use Rattle.turn_lock.specs.declared.views.View.{View}
use Rattle.turn_lock.specs.Fronts.{among, Front, events, own, Grows}
use Rattle.turn_lock.specs.Rule.{IsFree, IsTaken, Sees, InStage, HoldsTurn, Ruled}
use Rattle.turn_lock.specs.Sentences.{Begins, IsView, IsSight, IsLongest}
use Rattle.turn_lock.proofs.FrontLaws.{backs, whole, own_append, own_of_grown, own_of_new, among_append, among_left, among_right}

module _ {A : Type 0} where
  all_back : (P : A → Type 0) (xs ys : List A) → All P (xs ++ ys) → All P ys
  all_back P [] ys h = h
  all_back P (x ∷ xs) ys h = all_back P xs ys (All-tail P x (xs ++ ys) h)

  -- two lists that begin each other are one
  one_list : (a b : List A) → Begins a b → Begins b a → a ≡ b
  one_list a b (m, e) (n, f) = whole m a b e (let x = ap length f in let y = length-append n b in omega (arith, x, y))

pub both_numbers : (ns ms : List ℕ) (n : ℕ) → among (ns ++ ms) n ≡ true ↔ ((among ns n ≡ true) ⊎ (among ms n ≡ true))
both_numbers ns ms n = (among_append ns ms n, λ e. ⊎_elim (among_left ns ms n) (among_right ns ms n) e)

module _ {E : Type 0} where
  pub begins_either : (ns ms : List ℕ) (a b log : Front E) → Grows ns a log → Grows ms b log → Begins a b ⊎ Begins b a
  begins_either ns ms a b log g h = dite (dec_le (length a) (length b))
      (λ (le : length a ≤ length b). let t = backs g.more a h.more b (sym g.goes_on ∙ h.goes_on) le in inl (t.0, t.1))
      (λ no. let x : ℕ = length a in let y : ℕ = length b in let t = backs h.more b g.more a (sym h.goes_on ∙ g.goes_on) (omega arith) in inr (t.0, t.1))

  pub own_begins : (ns ms : List ℕ) (a b log : Front E) → Grows ns a log → Grows ms b log → Begins (own ns b) (own ns a)
  own_begins ns ms a b log g h = (own ns h.more, sym (own_of_grown ns a log g) ∙ (ap (own ns) h.goes_on ∙ own_append ns h.more b))

module _ {S E : Type 0} (stands : List E → S → Type 0) (s : State (Option S) (View E)) (r : Ruled stands s) where
  abbrev turns_is : slice_index s.words 0 ≡ r.0.turns
  turns_is = ap (λ (ws : List ℕ). slice_index ws 0) r.1

  pub one_history : (j k : ℕ) (v w : View E) → IsView s j v → IsView s k w → Begins v.seen.front w.seen.front ⊎ Begins w.seen.front v.seen.front
  one_history j k v w at at' = begins_either v.seen.numbers w.seen.numbers v.seen.front w.seen.front r.0.log (r.2.each_view j v at).seen.grows (r.2.each_view k w at').seen.grows

  pub one_owner : (j k : ℕ) (v w : View E) (n : ℕ) → IsView s j v → IsView s k w → among v.seen.numbers n ≡ true → among w.seen.numbers n ≡ true → j ≡ k
  one_owner j k v w n at at' e e' = sym ((r.2.each_view j v at).seen.owned n e).0 ∙ ((r.2.each_view k w at').seen.owned n e').0

  pub made_below : (j : ℕ) (v : View E) (n : ℕ) → IsView s j v → among v.seen.numbers n ≡ true → n < length s.views
  made_below j v n at e = let below = ((r.2.each_view j v at).seen.owned n e).1 in let count = r.2.counted in omega (arith, below, count)

  pub own_whole : (j k : ℕ) (v w : View E) → IsView s j v → IsView s k w → Begins (own v.seen.numbers w.seen.front) (own v.seen.numbers v.seen.front)
  own_whole j k v w at at' = own_begins v.seen.numbers w.seen.numbers v.seen.front w.seen.front r.0.log (r.2.each_view j v at).seen.grows (r.2.each_view k w at').seen.grows

  pub entries_made : (j : ℕ) (v : View E) → IsView s j v → All (λ (entry : Entry E). entry.seat < length s.views) v.seen.front
  entries_made j v at = let g = (r.2.each_view j v at).seen.grows in
      all_back (λ (entry : Entry E). entry.seat < length s.views) g.more v.seen.front
      (subst (λ (z : Front E). All (λ (entry : Entry E). entry.seat < length s.views) z) g.goes_on (subst (λ (n : ℕ). All (λ (entry : Entry E). entry.seat < n) r.0.log) (sym r.2.counted) r.2.each_entry))

  in_turn : (j : ℕ) (v : View E) → IsView s j v → v.stage ≡ HasTurn → InStage r.0.log r.0.turns r.0.holder j v.seen.front HasTurn
  in_turn j v at is = subst (InStage r.0.log r.0.turns r.0.holder j v.seen.front) is (r.2.each_view j v at).stage

  pub one_turn : (j k : ℕ) → HoldsTurn s.views j → HoldsTurn s.views k → j ≡ k
  one_turn j k (v, at, is) (w, at', is') = sym (in_turn j v at is).1 ∙ (in_turn k w at' is').1

  book_taken : (j : ℕ) → HoldsTurn s.views j → IsTaken r.0.turns
  book_taken j (v, at, is) = (in_turn j v at is).0

  book_free : ((j : ℕ) → HoldsTurn s.views j → ⊥) → IsFree r.0.turns
  book_free none_has = let n : ℕ = r.0.turns in dite (ℕ_discrete (n % 2) 0) (λ (even : n % 2 ≡ 0). even)
      (λ (ne : n % 2 ≢ 0). absurd (none_has r.0.holder (r.2.slot.taken (let m : ℕ = n in let other : m % 2 ≢ 0 = ne in omega (arith, other))).1))

  -- word 0 is odd exactly while a view has the turn
  pub taken_odd : IsTaken (slice_index s.words 0) ↔ ((j : ℕ) × HoldsTurn s.views j)
  taken_odd = (λ odd. (r.0.holder, (r.2.slot.taken (subst IsTaken turns_is odd)).1), λ h. subst IsTaken (sym turns_is) (book_taken h.0 h.1))

  pub free_even : IsFree (slice_index s.words 0) ↔ ((j : ℕ) → HoldsTurn s.views j → ⊥)
  free_even = (
    λ even j h. let odd = book_taken j h in let even' : IsFree r.0.turns = subst IsFree turns_is even in omega (arith, even', odd),
    λ none_has. subst IsFree (sym turns_is) (book_free none_has),
  )

  pub log_longest : IsLongest s r.0.log
  log_longest = record {
    begun = λ j v at. let f = r.2.each_view j v at in ((f.seen.grows.more, f.seen.grows.goes_on), (f.told.grows.more, f.told.grows.goes_on));
    is_one = r.2.longest;
  }

  pub turn_longest : (j : ℕ) (v : View E) → IsView s j v → v.stage ≡ HasTurn → IsLongest s v.seen.front
  turn_longest j v at is = subst (λ (z : Front E). IsLongest s z) (sym (in_turn j v at is).2) log_longest

  pub turn_out : (j : ℕ) → HoldsTurn s.views j → s.homes ≡ none ∷ []
  turn_out j h = (r.2.slot.taken (book_taken j h)).0

  pub at_home : ((j : ℕ) → HoldsTurn s.views j → ⊥) → (state : S) × (s.homes ≡ some (Some state) ∷ [])
  at_home none_has = let home = r.2.slot.free (book_free none_has) in (home.0, home.1)

  abbrev first_home : maybe.Option (Option S) → List (maybe.Option (Option S)) → maybe.Option (Option S)
  first_home d [] = d
  first_home d (h ∷ hs) = h

  same_state : (x y : S) → ◌≡◌ {A = Option S} (Some x) (Some y) → x ≡ y
  same_state x y e = ap (λ (o : Option S). value_or x o) e
    where
      value_or : S → Option S → S
      value_or d None = d
      value_or d (Some z) = z

  stands_at_home : (state : S) → s.homes ≡ some (Some state) ∷ [] → stands (events r.0.log) state
  stands_at_home state is = let n : ℕ = r.0.turns in dite (ℕ_discrete (n % 2) 0)
      (λ (even : n % 2 ≡ 0). let home = r.2.slot.free even in subst (λ (x : S). stands (events r.0.log) x) (same_state home.0 state (some-injective _ _ (ap (first_home none) (sym home.1 ∙ is)))) home.2)
      (λ (ne : n % 2 ≢ 0). let odd : IsTaken n = (let m : ℕ = n in let other : m % 2 ≢ 0 = ne in omega (arith, other)) in absurd (some-ne-none _ (sym (ap (first_home none) (sym (r.2.slot.taken odd).0 ∙ is)))))

  -- what every front begins, and is one of them, is the history
  longest_is : (log : Front E) → IsLongest s log → r.0.log ≡ log
  longest_is log l = let own_log = log_longest in
      let begins : Begins r.0.log log = by (r.2.longest.0) r.2.longest.1 r.2.longest.2 r.2.longest.3 in
      let begun : Begins log r.0.log = back l.is_one.0 l.is_one.1 l.is_one.2 l.is_one.3 in one_list r.0.log log begins begun
    where
      by : (j : ℕ) (v : View E) → IsView s j v → (v.seen.front ≡ r.0.log) ⊎ (v.told.front ≡ r.0.log) → Begins r.0.log log
      by j v at is = ⊎_elim (λ (e : v.seen.front ≡ r.0.log). subst (λ (z : Front E). Begins z log) e (l.begun j v at).0) (λ (e : v.told.front ≡ r.0.log). subst (λ (z : Front E). Begins z log) e (l.begun j v at).1) is

      back : (j : ℕ) (v : View E) → IsView s j v → (v.seen.front ≡ log) ⊎ (v.told.front ≡ log) → Begins log r.0.log
      back j v at is = ⊎_elim (λ (e : v.seen.front ≡ log). subst (λ (z : Front E). Begins z r.0.log) e (log_longest.begun j v at).0) (λ (e : v.told.front ≡ log). subst (λ (z : Front E). Begins z r.0.log) e (log_longest.begun j v at).1) is

  pub stands_for_longest : (state : S) (log : Front E) → s.homes ≡ some (Some state) ∷ [] → IsLongest s log → stands (events log) state
  stands_for_longest state log home l = subst (λ (z : Front E). stands (events z) state) (longest_is log l) (stands_at_home state home)

  -- what a seat has seen, and what it was told, alike
  sees : (j : ℕ) (x : Sight E) → IsSight s j x → Sees r.0.log r.0.owner r.0.count j x
  sees j x (v, at, is) = ⊎_elim (λ (e : v.seen ≡ x). subst (λ (z : Sight E). Sees r.0.log r.0.owner r.0.count j z) e (r.2.each_view j v at).seen) (λ (e : v.told ≡ x). subst (λ (z : Sight E). Sees r.0.log r.0.owner r.0.count j z) e (r.2.each_view j v at).told) is

  pub sights_of_one_history : (j k : ℕ) (x y : Sight E) → IsSight s j x → IsSight s k y → Begins x.front y.front ⊎ Begins y.front x.front
  sights_of_one_history j k x y at at' = begins_either x.numbers y.numbers x.front y.front r.0.log (sees j x at).grows (sees k y at').grows

  pub sight_owner : (j k : ℕ) (x y : Sight E) (n : ℕ) → IsSight s j x → IsSight s k y → among x.numbers n ≡ true → among y.numbers n ≡ true → j ≡ k
  sight_owner j k x y n at at' e e' = sym ((sees j x at).owned n e).0 ∙ ((sees k y at').owned n e').0

  pub sight_made : (j : ℕ) (x : Sight E) (n : ℕ) → IsSight s j x → among x.numbers n ≡ true → n < length s.views
  sight_made j x n at e = let below = ((sees j x at).owned n e).1 in let count = r.2.counted in omega (arith, below, count)

  pub told_apart : (j : ℕ) (v : View E) (n : ℕ) → IsView s j v → among v.seen.numbers n ≡ true → among v.told.numbers n ≡ false
  told_apart j v n at e = (r.2.each_view j v at).apart n e

  pub sight_own : (j k : ℕ) (x y : Sight E) → IsSight s j x → IsSight s k y → Begins (own x.numbers y.front) (own x.numbers x.front)
  sight_own j k x y at at' = own_begins x.numbers y.numbers x.front y.front r.0.log (sees j x at).grows (sees k y at').grows

  pub sight_entries : (j : ℕ) (x : Sight E) → IsSight s j x → All (λ (entry : Entry E). entry.seat < length s.views) x.front
  sight_entries j x at = let g = (sees j x at).grows in
      all_back (λ (entry : Entry E). entry.seat < length s.views) g.more x.front
      (subst (λ (z : Front E). All (λ (entry : Entry E). entry.seat < length s.views) z) g.goes_on (subst (λ (n : ℕ). All (λ (entry : Entry E). entry.seat < n) r.0.log) (sym r.2.counted) r.2.each_entry))

  -- there is a longest front, for which the value at home stands
  pub longest_exists : (log : Front E) × IsLongest s log
  longest_exists = (r.0.log, log_longest)

  pub home_and_longest : (state : S) → s.homes ≡ some (Some state) ∷ [] → (log : Front E) × IsLongest s log × stands (events log) state
  home_and_longest state home = (r.0.log, log_longest, stands_at_home state home)

  -- the count of views is nobody's number yet
  pub nobody_has : (j : ℕ) (x : Sight E) → IsSight s j x → among x.numbers (length s.views) ≡ false
  nobody_has j x at = false_from_ne_true (among x.numbers (length s.views)) (λ e. let below = sight_made j x (length s.views) at e in absurd (omega (arith, below)))

  pub no_entries_yet : (j : ℕ) (x : Sight E) → IsSight s j x → own (length s.views ∷ []) x.front ≡ []
  no_entries_yet j x at = own_of_new (length s.views) x.front (sight_entries j x at)
