-- Of the code alone: what is left of a line behind the words that were read.
use Rattle.std.specs.Prelude.{ℕ, List, [], ◌∷◌, Bool, true, false, Option, Some, None}
use Rattle.std.specs.Borrow.{Bor}
use Rattle.trace_labels.specs.Words.{Word, words_of}

-- the words of a text that is left, if one is
abbrev pub words_left : Option (Bor (List ℕ)) → List Word
words_left None = []
words_left (Some text) = words_of text.now

abbrev pub is_over : List Word → Bool
is_over [] = true
is_over (word ∷ words) = false
