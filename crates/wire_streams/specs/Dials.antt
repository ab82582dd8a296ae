-- What one call of a dialer adds to the calls that were made of it, and takes of the answers to come. Both are
-- optional, since a dialer need not tell them. The definitions and the limit of an answer are the project's own; the
-- longest answer of authsrv(6) is a byte and two tickets of 72.
use Rattle.std.specs.Prelude.{◌≡◌, ◌≤◌, ℕ, Bool, true, false, List, [], ◌∷◌, ◌++◌, length, Option, None, Some, ⊤}
use Rattle.wire_base.specs.declared.shape.Shape.{Shape}
use Rattle.wire_streams.specs.declared.dialer.TheConstants.{MOST_ANSWER}
use Rattle.wire_streams.specs.declared.dialer.Dial.{Dial}
use Rattle.wire_streams.specs.declared.dialer.Dial.TheVariants.{Heard, Failed, NoMemory}
use Rattle.wire_streams.specs.declared.dialer.Made.{Made}
use Rattle.wire_streams.specs.declared.dialer.Made.TheVariants.{Exchange, Close}
use Rattle.wire_streams.specs.declared.dialer.Outcome.{Outcome}
use Rattle.wire_streams.specs.declared.dialer.Outcome.TheVariants.{Answered, Unanswered, NoRoom}

-- The calls made, the first one first, and the answers to come.
pub record Dialed : Type 0 where
  pub made : List Made
  pub to_come : List (List ℕ)

-- Short enough to be an answer.
abbrev pub IsAnswer : List ℕ → Type 0
IsAnswer answer = length answer ≤ MOST_ANSWER

-- What an exchange came to, and the exchange with it.
abbrev pub outcome : Dial → List ℕ → Outcome
outcome Heard answer = Answered answer
outcome Failed answer = Unanswered
outcome NoMemory answer = NoRoom

abbrev pub exchanged : ℕ → List ℕ → Shape → Dial → List ℕ → Made
exchanged conv request shape dial answer = Exchange conv request shape (outcome dial answer)

-- Whether an exchange failed. Want of memory is no fault.
abbrev pub has_failed : Dial → Bool
has_failed Heard = false
has_failed Failed = true
has_failed NoMemory = false

-- An answer that was heard is the first of those to come, and is among them no more; else all stay.
abbrev pub Spends : List (List ℕ) → List (List ℕ) → Outcome → Type 0
Spends old new (Answered answer) = old ≡ answer ∷ new
Spends old new Unanswered = new ≡ old
Spends old new NoRoom = new ≡ old

abbrev pub Takes : List (List ℕ) → List (List ℕ) → Made → Type 0
Takes old new (Exchange conv request shape came_to) = Spends old new came_to
Takes old new (Close conv) = new ≡ old

-- One call more was made. It says nothing where nothing is told now, since a dialer may stop telling; what is told
-- now was told before.
abbrev pub Makes : Option Dialed → Option Dialed → Made → Type 0
Makes before None call = ⊤
Makes None (Some now) call = ⊥
Makes (Some before) (Some now) call = (now.made ≡ before.made ++ call ∷ []) × Takes before.to_come now.to_come call
