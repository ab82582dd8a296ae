-- A text cut into its lines, which a newline parts: what stands before the first, between two, and behind the last.
-- A text that ends in a newline has an empty last line.
use Rattle.std.specs.Prelude.{ℕ, ◌+◌, List, [], ◌==◌, length, Option, Some, None}
use Rattle.std.specs.Borrow.{Bor}
use Rattle.std.specs.List.{slice_split}

-- the lines of a text, empty ones too
abbrev pub text_lines : List ℕ → List (List ℕ)
text_lines text = slice_split (λ b. b == 10) text

-- ---- for loops over lines: what is left behind the line at hand

-- the lines of a text that is left, if one is
abbrev pub lines_left : Option (Bor (List ℕ)) → List (List ℕ)
lines_left None = []
lines_left (Some text) = text_lines text.now

-- how many bytes are left
abbrev pub bytes_left : Option (Bor (List ℕ)) → ℕ
bytes_left None = 0
bytes_left (Some text) = length text.now

-- how many bytes are left, and one for the end of the text
abbrev pub turns_left : Option (Bor (List ℕ)) → ℕ
turns_left None = 0
turns_left (Some text) = length text.now + 1
