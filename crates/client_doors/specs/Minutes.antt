-- Wrong answers by all that happened, however much of it is remembered. The definitions are the project's own.
use Rattle.std.specs.Prelude.{ℕ, ◌<◌, ◌≤◌, ◌==◌, List, [], ◌∷◌, length, Option, None, Some, ⊤, if◌then◌else◌}
use Rattle.client_doors.specs.declared.address.Address.{Address}
use Rattle.client_doors.specs.declared.limits.Limits.{Limits}
use Rattle.client_doors.specs.declared.wrongs.TheConstants.{MOST_ADDRESSES}
use Rattle.client_doors.specs.Histories.{Entry, seen_of}
use Rattle.client_doors.specs.Histories.Entry.{Came, Left, Wrong}

-- whether an answer is one of an address
abbrev pub times_with : Address → Option Address → ℕ → List ℕ → List ℕ
times_with a None now times = times
times_with a (Some b) now times = if b.bits == a.bits then now ∷ times else times

-- when an address gave wrong answers, the last one first
abbrev pub wrongs_of : Address → List Entry → List ℕ
wrongs_of a [] = []
wrongs_of a (Came b ∷ history) = wrongs_of a history
wrongs_of a (Left b ∷ history) = wrongs_of a history
wrongs_of a (Wrong b now ∷ history) = times_with a b now (wrongs_of a history)

-- when the last wrong answer came
abbrev pub last_time : List Entry → ℕ
last_time [] = 0
last_time (Came b ∷ history) = last_time history
last_time (Left b ∷ history) = last_time history
last_time (Wrong b now ∷ history) = now

-- The clock never fell, and whenever a wrong answer came fewer than 4,096 addresses were remembered.
abbrev pub IsTimely : Limits → List Entry → Type 0
IsTimely limits [] = ⊤
IsTimely limits (Came b ∷ history) = IsTimely limits history
IsTimely limits (Left b ∷ history) = IsTimely limits history
IsTimely limits (Wrong b now ∷ history) = (last_time history ≤ now)
    × ((length (seen_of limits history).guessers < MOST_ADDRESSES) × IsTimely limits history)
