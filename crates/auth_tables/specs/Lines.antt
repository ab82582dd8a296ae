-- The lines of a table, and its first bad line. A table is a text; a line that is empty or begins with `#` counts for
-- nothing, as in the files of ndb(6) of the Plan 9 manual. How many lines may count is this project's.
use Rattle.std.specs.Prelude.{◌≡◌, ℕ, ◌+◌, List, [], ◌∷◌, ◌++◌, Bool, true, false, not, ◌&&◌, ◌||◌, ◌==◌, nat_le, length, filter, Option, Some, None, Ok, Err, if◌then◌else◌}
use Rattle.attr_tuples.specs.declared.attr.Attr.{Attr}
use Rattle.attr_tuples.specs.Grammar.{tuple_of}

-- whether a line counts
abbrev pub counts : List ℕ → Bool
counts [] = false
counts (first ∷ rest) = not (first == 35)

-- the lines that count, in order
abbrev pub counted : List (List ℕ) → List (List ℕ)
counted lines = filter counts lines

-- the tuple that a line is, if it is one
unfoldable pub tuple_in : List ℕ → Option (List Attr)
tuple_in line = elim (tuple_of line) [ Ok t ↦ Some t | Err fault ↦ None ]

-- how many lines of a table may count
abbrev pub most_lines : ℕ
most_lines = 4096

-- whether a line is bad behind others: it counts, and either so many count before it, or it doesn't fit behind those of
-- the others that count. What fits is told by the table's kind.
abbrev pub is_bad : (List (List ℕ) → List ℕ → Bool) → List (List ℕ) → List ℕ → Bool
is_bad fits before line =
    counts line && (nat_le most_lines (length (counted before)) || not (fits (counted before) line))

-- the number of the first line that is bad behind those before it, where some lines stand before all of these
abbrev pub first_bad_behind : (List (List ℕ) → List ℕ → Bool) → List (List ℕ) → List (List ℕ) → Option ℕ
first_bad_behind fits before [] = None
first_bad_behind fits before (line ∷ lines) =
    if is_bad fits before line then Some (length before + 1)
    else first_bad_behind fits (before ++ line ∷ []) lines

-- the number of the first bad line, counted from 1
unfoldable pub first_bad : (List (List ℕ) → List ℕ → Bool) → List (List ℕ) → Option ℕ
first_bad fits lines = first_bad_behind fits [] lines

-- ---- the same in other words

-- the line of this number is bad behind those before it, and none of those is
pub record IsFirstBad (fits : List (List ℕ) → List ℕ → Bool) (lines : List (List ℕ)) (n : ℕ) : Type 0 where
  pub before : List (List ℕ)
  pub line : List ℕ
  pub behind : List (List ℕ)
  pub whole : lines ≡ before ++ line ∷ behind
  pub number : n ≡ length before + 1
  pub bad : is_bad fits before line ≡ true
  pub good : first_bad fits before ≡ None

-- no line is bad behind those before it
abbrev pub NoneIsBad : (List (List ℕ) → List ℕ → Bool) → List (List ℕ) → Type 0
NoneIsBad fits lines = (before : List (List ℕ)) (line : List ℕ) (behind : List (List ℕ))
    → lines ≡ before ++ line ∷ behind → is_bad fits before line ≡ false
