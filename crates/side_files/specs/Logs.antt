-- The lines of a log that nobody has read, after factotum(4) of the Plan 9 manual. How many are kept is this project's.
use Rattle.std.specs.Prelude.{ℕ, ◌-◌, List, [], ◌∷◌, ◌++◌, drop, length}
use Rattle.side_files.specs.declared.ring.TheConstants.{LOG_LINES}

-- the newest of lines, at most so many as are kept
abbrev pub newest : List (List ℕ) → List (List ℕ)
newest lines = drop (length lines - LOG_LINES) lines

-- a line is added; where the log is full, its oldest line is lost
abbrev pub pushed : List ℕ → List (List ℕ) → List (List ℕ)
pushed line lines = newest (lines ++ line ∷ [])
