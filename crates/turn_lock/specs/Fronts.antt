-- The history of all callers is a list of entries, the newest first, and isn't stored. A front is the part of it that
-- a seat has seen: what the history was at that time. So the history goes on from a front by entries put before it.
use Rattle.std.specs.Prelude.{◌≡◌, ℕ, List, [], ◌∷◌, ◌++◌, map, filter, Bool, false, ◌||◌, ◌==◌, min}
use Rattle.turn_lock.specs.declared.views.Entry.{Entry}

-- n is one of the numbers
abbrev pub among : List ℕ → ℕ → Bool
among [] n = false
among (number ∷ numbers) n = n == number || among numbers n

abbrev pub least_of : ℕ → List ℕ → ℕ
least_of number [] = number
least_of number (next ∷ numbers) = min number (least_of next numbers)

-- the least of the numbers
abbrev pub least : List ℕ → ℕ
least [] = 0
least (number ∷ numbers) = least_of number numbers

abbrev pub Front : Type 0 → Type 0
Front E = List (Entry E)

module _ {E : Type 0} where
  -- what happened, without who did it
  abbrev pub events : Front E → List E
  events front = map (λ (entry : Entry E). entry.event) front

  -- the entries of a front that were made with one of these numbers
  abbrev pub own : List ℕ → Front E → Front E
  own numbers front = filter (λ (entry : Entry E). among numbers entry.seat) front

  -- what a turn of a seat with these numbers adds to the history: an entry under the least of them for each event
  abbrev pub made : List ℕ → List E → Front E
  made numbers done = map (λ (event : E). record { seat = least numbers; event = event }) done

-- the front begins the later one, and what came behind it has no entry with one of these numbers
pub record Grows {E : Type 0} (numbers : List ℕ) (front later : Front E) : Type 0 where
  pub more : Front E
  pub goes_on : later ≡ more ++ front
  pub of_others : own numbers more ≡ []
