-- A script is lines, which newlines part. Empty ones and those that begin with `#` are skipped, but counted.
use Rattle.std.specs.Prelude.{ℕ, ◌+◌, List, [], ◌∷◌, Bool, true, not, ◌==◌, if◌then◌else◌}
use Rattle.std.specs.List.{list_all}
use Rattle.attr_tuples.specs.Cutting.{text_lines}

-- a line of a script with its number
pub record Numbered : Type 0 where
  pub number : ℕ
  pub text : List ℕ

-- a line is empty, or begins with `#`
abbrev pub is_skipped : List ℕ → Bool
is_skipped [] = true
is_skipped (b ∷ line) = b == 35

-- the lines that aren't skipped, the first of all having a number
abbrev pub numbered : ℕ → List (List ℕ) → List Numbered
numbered n [] = []
numbered n (line ∷ lines) =
    if is_skipped line then numbered (n + 1) lines
    else record { number = n; text = line } ∷ numbered (n + 1) lines

-- the lines of a script, numbered from 1 on
abbrev pub script_lines : List ℕ → List Numbered
script_lines text = numbered 1 (text_lines text)

-- a text has no newline, and none of some lines has one
abbrev pub is_whole : List ℕ → Bool
is_whole text = list_all (λ b. not (b == 10)) text

abbrev pub are_whole : List Numbered → Bool
are_whole lines = list_all (λ line. is_whole line.text) lines
