-- Calls that are made of a dialer, one after the other. They are optional, since a dialer need not tell them.
use Rattle.std.specs.Prelude.{◌≡◌, List, [], ◌∷◌, ◌++◌, ℕ, Option, None, Some, ⊤}
use Rattle.wire_streams.specs.Dials.{Dialed}
use Rattle.wire_streams.specs.declared.dialer.Made.{Made}
use Rattle.wire_streams.specs.declared.dialer.Made.TheVariants.{Exchange, Close}
use Rattle.wire_streams.specs.declared.dialer.Outcome.{Outcome}
use Rattle.wire_streams.specs.declared.dialer.Outcome.TheVariants.{Answered, Unanswered, NoRoom}

-- the answers that were heard in some calls
abbrev pub answer_in : Outcome → List (List ℕ)
answer_in (Answered bytes) = bytes ∷ []
answer_in Unanswered = []
answer_in NoRoom = []

abbrev pub answers_in : List Made → List (List ℕ)
answers_in [] = []
answers_in (Exchange conv request shape outcome ∷ calls) = answer_in outcome ++ answers_in calls
answers_in (Close conv ∷ calls) = answers_in calls

-- These calls were made of a dialer, the first of them first, and the answers heard are the next of those to come. It
-- says nothing where nothing is told now, since a dialer may stop telling; what is told now was told before.
abbrev pub MakesAll : Option Dialed → Option Dialed → List Made → Type 0
MakesAll before None calls = ⊤
MakesAll None (Some now) calls = ⊥
MakesAll (Some before) (Some now) calls =
    (now.made ≡ before.made ++ calls) × (before.to_come ≡ answers_in calls ++ now.to_come)
