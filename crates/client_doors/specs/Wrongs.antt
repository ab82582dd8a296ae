-- The wrong answers that are remembered: of the last 20 of an address when they came, and of 4,096 addresses. Times
-- are in milliseconds. The definitions are the project's own.
use Rattle.std.specs.Prelude.{ℕ, ◌-◌, List, [], ◌∷◌, Bool, false, not, ◌&&◌, ◌==◌, nat_lt, take, filter, slice_get, Option, None, Some, if◌then◌else◌}
use Rattle.client_doors.specs.declared.address.Address.{Address}
use Rattle.client_doors.specs.declared.wrongs.Guesser.{Guesser}
use Rattle.client_doors.specs.declared.wrongs.TheConstants.{MINUTE, MOST_ADDRESSES, MOST_TIMES}

-- when an address gave wrong answers, the last one first
abbrev pub times_of : Address → List Guesser → List ℕ
times_of a [] = []
times_of a (g ∷ guessers) = if g.address.bits == a.bits then g.times else times_of a guessers

-- whether the last one came within the last minute
abbrev pub is_recent : ℕ → List ℕ → Bool
is_recent now [] = false
is_recent now (last ∷ times) = nat_lt (now - last) MINUTE

-- the others that are still remembered
abbrev pub is_kept : Address → ℕ → Guesser → Bool
is_kept a now g = not (g.address.bits == a.bits) && is_recent now g.times

abbrev pub remembered : Address → ℕ → List Guesser → List Guesser
remembered a now guessers = filter (is_kept a now) guessers

-- the address with its last wrong answers, this one among them
abbrev pub with_time : Address → ℕ → List Guesser → Guesser
with_time a now guessers = record { address = a; times = take MOST_TIMES (now ∷ times_of a guessers) }

-- Who is remembered after a wrong answer: its address first, and of the others those whose last was the newest.
abbrev pub after_wrong : Address → ℕ → List Guesser → List Guesser
after_wrong a now guessers = take MOST_ADDRESSES (with_time a now guessers ∷ remembered a now guessers)

-- what is left of the minute behind a wrong answer
abbrev pub rest_behind : Option ℕ → ℕ → ℕ
rest_behind None now = 0
rest_behind (Some time) now = MINUTE - (now - time)

-- how long an address waits: until a minute has gone by since the 20th last of its wrong answers
abbrev pub rest_of : List ℕ → ℕ → ℕ
rest_of times now = rest_behind (slice_get times (MOST_TIMES - 1)) now

abbrev pub wait_of : Option Address → ℕ → List Guesser → ℕ
wait_of None now guessers = 0
wait_of (Some a) now guessers = rest_of (times_of a guessers) now
