-- What the calls of a turn lock say of seats.
use Rattle.std.specs.Prelude.{◌≡◌, ℕ, List, [], ◌∷◌, ◌++◌, true, false, Option, Some, ◌⊎◌}
use Rattle.atomic_table.specs.Seated.{TableId}
use Rattle.atomic_table.specs.declared.shared.Seat.{Seat}
use Rattle.turn_lock.specs.declared.lock.TurnLock.{TurnLock}
use Rattle.turn_lock.specs.declared.views.Stage.TheVariants.{Outside, HasTurn}
use Rattle.turn_lock.specs.declared.views.View.{View}
use Rattle.turn_lock.specs.Fronts.{Front, among, events, own, made, Grows}
use Rattle.turn_lock.specs.Rule.{nothing}

abbrev pub SeatOf : Type 0 → Type 0 → Type 0
SeatOf S E = Seat (Option S) (View E)

module _ {S E : Type 0} where
  -- what the seat has seen of the history, and the numbers of its own entries
  abbrev pub front : SeatOf S E → Front E
  front seat = seat.me.0.seen.front

  abbrev pub numbers : SeatOf S E → List ℕ
  numbers seat = seat.me.0.seen.numbers

  -- a seat between two calls: it has a number, not the turn, no slot, and was told nothing that it hasn't seen
  pub record IsIdle (table : TableId) (seat : SeatOf S E) : Type 0 where
    pub of_table : seat.table_id ≡ table
    pub no_slot : seat.me.1 ≡ []
    pub no_turn : seat.me.0.stage ≡ Outside
    pub nothing_told : seat.me.0.told ≡ nothing
    pub numbered : (number : ℕ) × (among (numbers seat) number ≡ true)

  -- it is the same seat of the same table
  abbrev pub IsSame : SeatOf S E → SeatOf S E → Type 0
  IsSame old new = (new.table_id ≡ old.table_id) × (new.id ≡ old.id)

  -- the seat has the turn, and in the slot a value that stands for these events
  pub record HoldsValue (stands : List E → S → Type 0) (seat : SeatOf S E) (history : List E) : Type 0 where
    pub has_turn : seat.me.0.stage ≡ HasTurn
    pub state : S
    pub slot : seat.me.1 ≡ (0, Some state) ∷ []
    pub for_history : stands history state

  -- One turn. The seat has seen what others did meanwhile, and at the end the events of its own that the call made, the
  -- newest first. The reply and the call after it are those on a value that stands for all before these events
  pub record Turned (done : List E) (gives : List E → Type 0) (before after : SeatOf S E) : Type 0 where
    pub others : Front E
    pub adds : front after ≡ made (numbers before) done ++ (others ++ front before)
    pub of_others : own (numbers before) others ≡ []
    pub same_numbers : numbers after ≡ numbers before
    pub answers : gives (events (others ++ front before))

  -- Two seats of one, with the front that came. The one keeps its numbers; the other has a new one, without entries
  pub record Parted (seat one other : SeatOf S E) : Type 0 where
    pub same_front : front one ≡ front seat
    pub same_numbers : numbers one ≡ numbers seat
    pub other_front : front other ≡ front seat
    pub number : ℕ
    pub other_numbers : numbers other ≡ number ∷ []
    pub is_new : among (numbers seat) number ≡ false
    pub no_entries : own (number ∷ []) (front seat) ≡ []

  -- One seat of two, with the longer front, which goes on from both, and with the numbers of both, none of them in
  -- common
  pub record Joined (one other both : SeatOf S E) : Type 0 where
    pub longer : (front both ≡ front one) ⊎ (front both ≡ front other)
    pub from_one : Grows (numbers one) (front one) (front both)
    pub from_other : Grows (numbers other) (front other) (front both)
    pub all_numbers : numbers both ≡ numbers one ++ numbers other
    pub apart : (n : ℕ) → among (numbers one) n ≡ true → among (numbers other) n ≡ false

-- it is a seat of this lock
abbrev pub IsSeatOf : {S E : Type 0} → TurnLock S E → SeatOf S E → Type 0
IsSeatOf lock seat = IsIdle lock.table.shared.table_id seat
