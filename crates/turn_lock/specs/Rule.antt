-- The rule of the turn lock. Word 0 numbers the turns: it is even while the turn is free, and odd while a seat has
-- it. The one slot holds the value, or is out with the seat that has the turn. The rule holds between any two atomic
-- steps.
use Rattle.std.specs.Prelude.{◌≡◌, ℕ, ◌%◌, ◌<◌, List, [], ◌∷◌, length, All, true, false, Option, Some, ◌⊎◌}
use mathlib.Core.Option.{some, none}
use mathlib.Core.Option as maybe
use lib.ListN.{get_elem?}
use Rattle.atomic_table.specs.Table.{State}
use Rattle.turn_lock.specs.declared.views.Entry.{Entry}
use Rattle.turn_lock.specs.declared.views.Sight.{Sight}
use Rattle.turn_lock.specs.declared.views.Stage.{Stage}
use Rattle.turn_lock.specs.declared.views.Stage.TheVariants.{Outside, HasTurn}
use Rattle.turn_lock.specs.declared.views.View.{View}
use Rattle.turn_lock.specs.Fronts.{Front, among, events, Grows}

module _ {E : Type 0} where
  abbrev pub sight : Front E → List ℕ → Sight E
  sight front numbers = record { front = front; numbers = numbers }

  abbrev pub nothing : Sight E
  nothing = sight [] []

  abbrev pub view : Sight E → Sight E → Stage → View E
  view seen told stage = record { seen = seen; told = told; stage = stage }

  -- a seat that has seen nothing, with a number of its own
  abbrev pub newcomer : ℕ → View E
  newcomer number = view (sight [] (number ∷ [])) nothing Outside

  -- what is left of a seat that another took in
  abbrev pub spent : View E
  spent = view nothing nothing Outside

-- the turn is free, or a seat has it, by its number
abbrev pub IsFree : ℕ → Type 0
IsFree turns = turns % 2 ≡ 0

abbrev pub IsTaken : ℕ → Type 0
IsTaken turns = turns % 2 ≡ 1

-- What the rule alone knows: the history, the number of the turn, the view that has it where it is taken, which view
-- has a number, and how many views there are
pub record Book (E : Type 0) : Type 0 where
  pub log : Front E
  pub turns : ℕ
  pub holder : ℕ
  pub owner : ℕ → ℕ
  pub count : ℕ

-- The history goes on from what the view j has seen by entries that aren't its own. Its numbers were made, and are in
-- no other view
pub record Sees {E : Type 0} (log : Front E) (owner : ℕ → ℕ) (count j : ℕ) (seen : Sight E) : Type 0 where
  pub grows : Grows seen.numbers seen.front log
  pub owned : (n : ℕ) → among seen.numbers n ≡ true → (owner n ≡ j) × (n < count)

-- who has the turn has the whole history, and the slot
abbrev pub InStage : {E : Type 0} → Front E → ℕ → ℕ → ℕ → Front E → Stage → Type 0
InStage log turns holder j front Outside = Unit {0}
InStage log turns holder j front HasTurn = IsTaken turns × (holder ≡ j) × (front ≡ log)

pub record Fits {E : Type 0} (book : Book E) (j : ℕ) (v : View E) : Type 0 where
  pub seen : Sees book.log book.owner book.count j v.seen
  pub told : Sees book.log book.owner book.count j v.told
  pub apart : (n : ℕ) → among v.seen.numbers n ≡ true → among v.told.numbers n ≡ false
  pub stage : InStage book.log book.turns book.holder j v.seen.front v.stage

-- the view j has the turn
abbrev pub HoldsTurn : {E : Type 0} → List (View E) → ℕ → Type 0
HoldsTurn {E} views j = (v : View E) × (get_elem? views j ≡ some v) × (v.stage ≡ HasTurn)

-- some view has this front, or was told of it
abbrev pub IsSeen : {E : Type 0} → Front E → List (View E) → Type 0
IsSeen {E} log views = (j : ℕ) × (v : View E) × (get_elem? views j ≡ some v)
    × ((v.seen.front ≡ log) ⊎ (v.told.front ≡ log))

module _ {S E : Type 0} (stands : List E → S → Type 0) where
  -- while the turn is free the slot is at home with a value that stands for the history; else it is out, and a view
  -- has the turn
  pub record IsSlot (log : Front E) (turns holder : ℕ) (homes : List (maybe.Option (Option S)))
      (views : List (View E)) : Type 0 where
    pub free : IsFree turns → (state : S) × (homes ≡ some (Some state) ∷ []) × stands (events log) state
    pub taken : IsTaken turns → (homes ≡ none ∷ []) × HoldsTurn views holder

  pub record Kept (book : Book E) (homes : List (maybe.Option (Option S))) (views : List (View E)) : Type 0 where
    pub counted : length views ≡ book.count
    pub each_view : (j : ℕ) (v : View E) → get_elem? views j ≡ some v → Fits book j v
    pub each_entry : All (λ (entry : Entry E). entry.seat < book.count) book.log
    pub longest : IsSeen book.log views
    pub slot : IsSlot book.log book.turns book.holder homes views

  -- the rule
  abbrev pub Ruled : State (Option S) (View E) → Type 0
  Ruled s = (book : Book E) × (s.words ≡ book.turns ∷ []) × Kept book s.homes s.views
