-- What is so after clients came and went and gave wrong answers, as a function of all that happened. The definitions
-- are the project's own.
use Rattle.std.specs.Prelude.{ℕ, List, [], ◌∷◌, ◌++◌, Bool, Option, None, Some, if◌then◌else◌}
use Rattle.client_doors.specs.declared.address.Address.{Address}
use Rattle.client_doors.specs.declared.limits.Limits.{Limits}
use Rattle.client_doors.specs.declared.wrongs.Guesser.{Guesser}
use Rattle.client_doors.specs.Inside.{has_room, without}
use Rattle.client_doors.specs.Wrongs.{after_wrong}

-- the limits, who is inside, in the order in which they came, and who gave wrong answers
pub record Seen : Type 0 where
  pub limits : Limits
  pub inside : List (Option Address)
  pub guessers : List Guesser

abbrev pub nobody : Limits → Seen
nobody limits = record { limits = limits; inside = []; guessers = [] }

abbrev pub with_inside : List (Option Address) → Seen → Seen
with_inside inside seen = record { limits = seen.limits; inside = inside; guessers = seen.guessers }

abbrev pub with_guessers : List Guesser → Seen → Seen
with_guessers guessers seen = record { limits = seen.limits; inside = seen.inside; guessers = guessers }

-- whether a client is let in that comes now
abbrev pub is_let_in : Option Address → Seen → Bool
is_let_in a seen = has_room seen.limits seen.inside a

-- a client came, and is inside where there was room
abbrev pub came : Option Address → Seen → Seen
came a seen = if is_let_in a seen then with_inside (seen.inside ++ a ∷ []) seen else seen

-- a client of this address went
abbrev pub left : Option Address → Seen → Seen
left a seen = with_inside (without a seen.inside) seen

-- a wrong answer at a time; who has no address isn't remembered
abbrev pub wronged : Option Address → ℕ → Seen → Seen
wronged None now seen = seen
wronged (Some a) now seen = with_guessers (after_wrong a now seen.guessers) seen

-- what happened
pub data Entry : Type 0 where
  Came : Option Address → Entry
  Left : Option Address → Entry
  Wrong : Option Address → ℕ → Entry

-- what is so after a history, the newest first
abbrev pub seen_of : Limits → List Entry → Seen
seen_of limits [] = nobody limits
seen_of limits (Came a ∷ history) = came a (seen_of limits history)
seen_of limits (Left a ∷ history) = left a (seen_of limits history)
seen_of limits (Wrong a now ∷ history) = wronged a now (seen_of limits history)
