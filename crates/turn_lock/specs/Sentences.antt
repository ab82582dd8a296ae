-- Words for the laws of the rule: what is said there of views and fronts in a state of the lock's table.
use Rattle.std.specs.Prelude.{◌≡◌, ℕ, ◌<◌, ◌≤◌, List, [], ◌∷◌, ◌++◌, length, All, true, false, Option, Some, ◌⊎◌}
use mathlib.Core.Option.{some}
use lib.ListN.{get_elem?}
use Rattle.atomic_table.specs.Table.{State}
use Rattle.turn_lock.specs.declared.views.Entry.{Entry}
use Rattle.turn_lock.specs.declared.views.Sight.{Sight}
use Rattle.turn_lock.specs.declared.views.View.{View}
use Rattle.turn_lock.specs.Fronts.{Front, among, events, own}
use Rattle.turn_lock.specs.Rule.{newcomer, Ruled}

-- the later list goes on from the front by what was put before it
abbrev pub Begins : {A : Type 0} → List A → List A → Type 0
Begins {A} front later = (more : List A) × (later ≡ more ++ front)

-- the number is one of these, and none of these is less
abbrev pub IsLeast : List ℕ → ℕ → Type 0
IsLeast numbers number = (among numbers number ≡ true) × ((n : ℕ) → among numbers n ≡ true → number ≤ n)

module _ {S E : Type 0} (s : State (Option S) (View E)) where
  -- the view of the seat j
  abbrev pub IsView : ℕ → View E → Type 0
  IsView j v = get_elem? s.views j ≡ some v

  -- the seat j has seen this front with these numbers, or was told of them
  abbrev pub IsSight : ℕ → Sight E → Type 0
  IsSight j sight = (v : View E) × IsView j v × ((v.seen ≡ sight) ⊎ (v.told ≡ sight))

  -- each front begins it, and it is one of them, or was told of
  pub record IsLongest (log : Front E) : Type 0 where
    pub begun : (j : ℕ) (v : View E) → IsView j v → Begins v.seen.front log × Begins v.told.front log
    pub is_one : (j : ℕ) × (v : View E) × IsView j v × ((v.seen.front ≡ log) ⊎ (v.told.front ≡ log))

  -- while the slot is at home there is a longest front for which its value stands
  abbrev pub StandsForLongest : (List E → S → Type 0) → Type 0
  StandsForLongest stands =
      (state : S) → s.homes ≡ some (Some state) ∷ [] → (log : Front E) × IsLongest log × stands (events log) state

  -- nobody has the number of a seat that would come now, nor is there an entry with it
  abbrev pub NextIsNobodys : Type 0
  NextIsNobodys = (j : ℕ) (sight : Sight E) → IsSight j sight → among sight.numbers (length s.views) ≡ false

  abbrev pub NextHasNoEntries : Type 0
  NextHasNoEntries = (j : ℕ) (sight : Sight E) → IsSight j sight → own (length s.views ∷ []) sight.front ≡ []

  -- of what seats have seen or were told: the fronts are of one history; a number is with one seat, not both seen
  -- and told, and was made; a front holds no entry of another's number that the front beside the number lacks, nor
  -- one with a number that wasn't made
  abbrev pub SightsAreOfOneHistory : Type 0
  SightsAreOfOneHistory = (j k : ℕ) (one other : Sight E) → IsSight j one → IsSight k other
      → Begins one.front other.front ⊎ Begins other.front one.front

  abbrev pub NumbersHaveOneSeat : Type 0
  NumbersHaveOneSeat = (j k n : ℕ) (one other : Sight E) → IsSight j one → IsSight k other → among one.numbers n ≡ true
      → among other.numbers n ≡ true → j ≡ k

  abbrev pub SeenAndToldAreApart : Type 0
  SeenAndToldAreApart =
      (j n : ℕ) (v : View E) → IsView j v → among v.seen.numbers n ≡ true → among v.told.numbers n ≡ false

  abbrev pub NumbersWereMade : Type 0
  NumbersWereMade = (j n : ℕ) (sight : Sight E) → IsSight j sight → among sight.numbers n ≡ true → n < length s.views

  abbrev pub NumbersHaveTheirEntries : Type 0
  NumbersHaveTheirEntries = (j k : ℕ) (one other : Sight E) → IsSight j one → IsSight k other
      → Begins (own one.numbers other.front) (own one.numbers one.front)

  abbrev pub EntriesWereMade : Type 0
  EntriesWereMade = (j : ℕ) (sight : Sight E) → IsSight j sight
      → All (λ (entry : Entry E). entry.seat < length s.views) sight.front

-- it is so in every state that keeps the rule
abbrev pub Always : {S E : Type 0} → (List E → S → Type 0) → (State (Option S) (View E) → Type 0) → Type 0
Always {S} {E} stands P = (s : State (Option S) (View E)) → Ruled stands s → P s

-- a seat comes with the count of views as its number
abbrev pub with_newcomer : {S E : Type 0} → State (Option S) (View E) → State (Option S) (View E)
with_newcomer {S} {E} s = record { words = s.words; homes = s.homes; views = s.views ++ newcomer (length s.views) ∷ [] }
