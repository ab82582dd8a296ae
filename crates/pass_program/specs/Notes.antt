-- The line of an event for standard error: whom it is of, and what became of him.
use Rattle.std.specs.Prelude.{ℕ, List, [], ◌∷◌, ◌++◌, codes, map}
use Rattle.auth_program.specs.Log.{shown_byte}
use Rattle.pass_program.specs.Changes.{refusal_text}
use Rattle.pass_program.specs.declared.refusal.Event.{Event}
use Rattle.pass_program.specs.declared.refusal.Event.TheVariants.{Changed, Refused}

abbrev pub event_words : Event → List ℕ
event_words (Refused why) = refusal_text why
event_words Changed = codes "password changed"

abbrev pub event_text : List ℕ → Event → List ℕ
event_text user event = codes "pass_change: " ++ (map shown_byte user ++ (codes ": " ++ (event_words event ++ 10 ∷ [])))
