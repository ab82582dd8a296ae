-- What each atomic step tells the seat that makes it. `m` is the seat before the step and `m'` after it: its view, and
-- the slots that it has; `found` is the word that was found.
use Rattle.std.specs.Prelude.{◌≡◌, ◌≢◌, ℕ, List, ◌∷◌, ◌++◌, true, false, Option, Some, ◌⊎◌}
use Rattle.atomic_table.specs.Table.{Me, Step, rest}
use Rattle.turn_lock.specs.declared.views.Stage.TheVariants.{Outside, HasTurn}
use Rattle.turn_lock.specs.declared.views.View.{View}
use Rattle.turn_lock.specs.Fronts.{Front, among, events, made, Grows}
use Rattle.turn_lock.specs.Rule.{sight, nothing, view, newcomer}

abbrev pub Mine : Type 0 → Type 0 → Type 0
Mine S E = Me (Option S) (View E)

module _ {E : Type 0} where
  -- the turn is taken, with this history
  abbrev pub with_turn : View E → Front E → View E
  with_turn v front = view (sight front v.seen.numbers) v.told HasTurn

  -- the turn is given back, and the entries of these events, the newest first, stand at the end of the front
  abbrev pub after_turn : View E → List E → View E
  after_turn v done = view (sight (made v.seen.numbers done ++ v.seen.front) v.seen.numbers) v.told Outside

  -- the one view takes in the other, whose front and numbers it is told
  abbrev pub told_of : View E → View E → View E
  told_of v w = view v.seen w.seen Outside

  -- the view without what it was told
  abbrev pub kept : View E → View E
  kept v = view v.seen nothing Outside

  -- a view with the front of this one, and with the numbers that it was told
  abbrev pub cut : View E → View E
  cut v = view (sight v.seen.front v.told.numbers) nothing Outside

  -- what is seen and what was told are fronts of one history, and have no number in common
  pub record Agree (v : View E) : Type 0 where
    pub log : Front E
    pub seen : Grows v.seen.numbers v.seen.front log
    pub told : Grows v.told.numbers v.told.front log
    pub apart : (n : ℕ) → among v.seen.numbers n ≡ true → among v.told.numbers n ≡ false

  -- the longer front, with all numbers
  pub record Settled (v w : View E) : Type 0 where
    pub front : Front E
    pub now : w ≡ view (sight front (v.seen.numbers ++ v.told.numbers)) nothing Outside
    pub one : (front ≡ v.seen.front) ⊎ (front ≡ v.told.front)
    pub seen : Grows v.seen.numbers v.seen.front front
    pub told : Grows v.told.numbers v.told.front front
    pub apart : (n : ℕ) → among v.seen.numbers n ≡ true → among v.told.numbers n ≡ false

module _ {S E : Type 0} where
  -- a seat came, with a number that was nobody's
  abbrev pub entered : Step (Option S) → Mine S E → ℕ → Mine S E → Type 0
  entered st m found m' = (number : ℕ) × (m'.0 ≡ newcomer number)

  -- nothing changes
  abbrev pub peeked : Step (Option S) → Mine S E → ℕ → Mine S E → Type 0
  peeked st m found m' = m' ≡ m

  -- the turn is given back, and with it the slot
  abbrev pub gave : List E → Step (Option S) → Mine S E → ℕ → Mine S E → Type 0
  gave done st m found m' = m' ≡ (after_turn m.0 done, rest m.1)

  abbrev pub weighed : Step (Option S) → Mine S E → ℕ → Mine S E → Type 0
  weighed st m found m' = (m' ≡ m) × Agree m.0

  abbrev pub settled : Step (Option S) → Mine S E → ℕ → Mine S E → Type 0
  settled st m found m' = (m'.1 ≡ m.1) × Settled m.0 m'.0

module _ {S E : Type 0} (stands : List E → S → Type 0) where
  -- the seat has the turn: its front is the history, for which the value in the slot stands
  pub record Took (m m' : Mine S E) : Type 0 where
    pub log : Front E
    pub state : S
    pub now : m' ≡ (with_turn m.0 log, (0, Some state) ∷ m.1)
    pub grows : Grows m.0.seen.numbers m.0.seen.front log
    pub for_log : stands (events log) state

  -- the turn was free under this number, and is taken; or another number was found, and nothing changes
  abbrev pub tried : Step (Option S) → Mine S E → ℕ → Mine S E → Type 0
  tried st m found m' = (found ≡ st.first → Took m m') × (found ≢ st.first → m' ≡ m)
