-- Of the code alone: the places that are kept for questions.
use Rattle.std.specs.Prelude.{ℕ, List, Option, Some, None}

-- the place of a question whose line is made
abbrev pub places : Option (List ℕ) → ℕ
places None = 0
places (Some line) = 1
