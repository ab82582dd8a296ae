-- Which servers failed lately, and in which order all are tried. What was found of servers is a list, the newest
-- first; the definitions are the project's own.
use Rattle.std.specs.Prelude.{◌≡◌, ℕ, zero, suc, ◌+◌, ◌-◌, List, [], ◌∷◌, ◌++◌, Bool, false, not, ◌==◌, nat_lt, Option, Some, None, option_map, slice_index_or, if◌then◌else◌, ⊤}
use Rattle.std.specs.Time.{instant_nanos}
use Rattle.std.specs.declared.time.Instant.{Instant}
use Rattle.sockets.specs.declared.failures.TheConstants.{MINUTE}

-- what was found of a server: it failed at a moment, in nanoseconds of the clock, or it answered
pub data Finding : Type 0 where
  Failed : ℕ → ℕ → Finding
  Answered : ℕ → Finding

-- when a server failed, where it hasn't answered since
abbrev pub failed_at : List Finding → ℕ → Option ℕ
failed_at [] i = None
failed_at (Failed j moment ∷ found) i = if i == j then Some moment else failed_at found i
failed_at (Answered j ∷ found) i = if i == j then None else failed_at found i

-- a server is tried behind the others for a minute after its failure
abbrev pub is_behind : ℕ → Option ℕ → Bool
is_behind now None = false
is_behind now (Some moment) = nat_lt (now - moment) MINUTE

-- those of so many servers from one on that pass a test, in their order
abbrev pub those : (ℕ → Bool) → ℕ → ℕ → List ℕ
those test from zero = []
those test from (suc count) = if test from then from ∷ those test (from + 1) count else those test (from + 1) count

-- The order of so many servers at a moment, by when each failed: those that didn't fail within the last minute, in the
-- order in which they are named, and then those that did, in that order too.
abbrev pub in_order : (ℕ → Option ℕ) → ℕ → ℕ → List ℕ
in_order failed now count =
    those (λ i. not (is_behind now (failed i))) 0 count ++ those (λ i. is_behind now (failed i)) 0 count

-- what a table of moments tells
abbrev pub failed_in : List (Option Instant) → ℕ → Option ℕ
failed_in table i = option_map instant_nanos (slice_index_or table i None)

-- What is kept of servers is what a history tells, where it is told at all.
abbrev pub StandsFor : List Finding → Option (ℕ → Option ℕ) → Type 0
StandsFor found None = ⊤
StandsFor found (Some failed) = (i : ℕ) → failed i ≡ failed_at found i

-- One finding more.
abbrev pub Finds : Finding → Option (ℕ → Option ℕ) → Option (ℕ → Option ℕ) → Type 0
Finds finding old new = (found : List Finding) → StandsFor found old → StandsFor (finding ∷ found) new

-- An order of so many servers is that by when each failed, where that is told, and else that by some such moments.
abbrev pub IsOrder : Option (ℕ → Option ℕ) → ℕ → ℕ → List ℕ → Type 0
IsOrder None now count order = (failed : ℕ → Option ℕ) × (order ≡ in_order failed now count)
IsOrder (Some failed) now count order = order ≡ in_order failed now count
