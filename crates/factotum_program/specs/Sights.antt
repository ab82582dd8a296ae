-- What a pipe draws, asks and writes between two moments. Words, calls and bytes are optional: what is said of them
-- holds where they are told.
use Rattle.std.specs.Prelude.{◌≡◌, ℕ, List, [], ◌∷◌, ◌++◌, Bool, true, false, Option, None, Some, ⊤}
use Rattle.std.specs.List.{list_all}
use Rattle.wire_streams.specs.Dials.{Dialed}
use Rattle.wire_streams.specs.declared.dialer.Made.{Made}
use Rattle.wire_streams.specs.declared.dialer.Made.TheVariants.{Exchange, Close}
use Rattle.wire_streams.specs.declared.dialer.Outcome.{Outcome}
use Rattle.wire_streams.specs.declared.dialer.Outcome.TheVariants.{Answered, Unanswered, NoRoom}
use Rattle.auth_server.specs.Sessions.{DrawsAll}
use Rattle.factotum_program.specs.Pipe.{Turn, calls_of, words_of}

-- the words to come, what the dialer tells of its calls, and the bytes that the output holds
pub record Sight : Type 0 where
  pub words : Option (List (List ℕ))
  pub dialed : Option Dialed
  pub holds : Option (List ℕ)

-- such a sight by its parts
abbrev pub sight : Option (List (List ℕ)) → Option Dialed → Option (List ℕ) → Sight
sight words dialed holds = record { words = words; dialed = dialed; holds = holds }

-- the answers that were heard in some calls
abbrev pub answer_in : Outcome → List (List ℕ)
answer_in (Answered bytes) = bytes ∷ []
answer_in Unanswered = []
answer_in NoRoom = []

abbrev pub answers_in : List Made → List (List ℕ)
answers_in [] = []
answers_in (Exchange conv request shape outcome ∷ calls) = answer_in outcome ++ answers_in calls
answers_in (Close conv ∷ calls) = answers_in calls

-- These calls were made of a dialer, the first of them first, and the answers heard are the next of those to come. It
-- says nothing where nothing is told now, since a dialer may stop telling; what is told now was told before.
abbrev pub MakesAll : Option Dialed → Option Dialed → List Made → Type 0
MakesAll before None calls = ⊤
MakesAll None (Some now) calls = ⊥
MakesAll (Some before) (Some now) calls =
    (now.made ≡ before.made ++ calls) × (before.to_come ≡ answers_in calls ++ now.to_come)

-- the words of these turns were drawn, and their calls made, and nothing else
pub record Goes (before now : Sight) (turns : List Turn) : Type 0 where
  pub drew : DrawsAll before.words now.words (words_of turns)
  pub made : MakesAll before.dialed now.dialed (calls_of turns)

-- the call gives a connection up
abbrev pub is_close : Made → Bool
is_close (Close conv) = true
is_close (Exchange conv request shape outcome) = false

-- These calls were made, but for the last ones, which would have given connections up.
pub record MakesPart (before now : Option Dialed) (calls : List Made) : Type 0 where
  pub made : List Made
  pub left : List Made
  pub parts : calls ≡ made ++ left
  pub closes : list_all is_close left ≡ true
  pub makes : MakesAll before now made

-- the words of these turns were drawn, and their calls made so
pub record GoesPart (before now : Sight) (turns : List Turn) : Type 0 where
  pub drew : DrawsAll before.words now.words (words_of turns)
  pub made : MakesPart before.dialed now.dialed (calls_of turns)
