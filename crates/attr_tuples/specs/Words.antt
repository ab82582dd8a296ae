-- Words of a line, quoted as rc(1) of the Plan 9 manual has it: between one `'` and the next each byte stands for
-- itself, and `''` for one `'`. What a word is made of (parts) and how the first one is taken (unquote) are given
-- apart; that they agree is a law.
use Rattle.std.specs.Prelude.{◌≡◌, ℕ, ◌+◌, length, List, [], ◌∷◌, ◌++◌, Bool, true, false, not, ◌&&◌, ◌||◌, ◌==◌, Result, Ok, Err, if◌then◌else◌}
use Rattle.std.specs.List.{flat_map, list_any, position_or_len}
use Rattle.attr_tuples.specs.declared.word.Place.{Place}
use Rattle.attr_tuples.specs.declared.word.Place.TheVariants.{Outside, Inside, Behind}

-- a byte between words: a blank or a tab
abbrev pub is_gap : ℕ → Bool
is_gap b = b == 32 || b == 9

-- a byte at which an unquoted value would end: a blank, a tab or a `'`
abbrev pub ends_unquoted : ℕ → Bool
ends_unquoted b = b == 32 || (b == 9 || b == 39)

-- a byte inside quotes: a `'` is doubled
abbrev pub quoted_byte : ℕ → List ℕ
quoted_byte b = if b == 39 then 39 ∷ 39 ∷ [] else b ∷ []

-- bytes inside quotes
abbrev pub quoted_bytes : List ℕ → List ℕ
quoted_bytes bytes = flat_map quoted_byte bytes

-- bytes in quotes
abbrev pub quoted : List ℕ → List ℕ
quoted bytes = 39 ∷ quoted_bytes bytes ++ 39 ∷ []

-- a value stands in quotes exactly where it is empty or holds a blank, a tab or a `'`
abbrev pub needs_quotes : List ℕ → Bool
needs_quotes text = length text == 0 || list_any ends_unquoted text

-- a value as it is printed
abbrev pub value_text : List ℕ → List ℕ
value_text text = if needs_quotes text then quoted text else text

-- ---- what a word is

-- A word is made of parts.
pub data Part : Type 0 where
  -- a byte that stands for itself
  Plain : (b : ℕ) → Part
  -- bytes in quotes
  Quoted : (bytes : List ℕ) → Part

-- a part as it is written, and the bytes that it means
abbrev pub part_text : Part → List ℕ
part_text (Plain b) = b ∷ []
part_text (Quoted bytes) = quoted bytes

abbrev pub part_bytes : Part → List ℕ
part_bytes (Plain b) = b ∷ []
part_bytes (Quoted bytes) = bytes

-- a word as it is written, and the bytes that it means
abbrev pub word_text : List Part → List ℕ
word_text parts = flat_map part_text parts

abbrev pub word_bytes : List Part → List ℕ
word_bytes parts = flat_map part_bytes parts

-- whether a text begins with `'`
abbrev pub begins_quote : List ℕ → Bool
begins_quote [] = false
begins_quote (b ∷ rest) = b == 39

-- whether parts may stand side by side in front of the rest of a text: a byte that stands for itself is no blank, no
-- tab and no `'`, and behind bytes in quotes comes no `'`, which would double the closing one
abbrev pub are_parts : List Part → List ℕ → Bool
are_parts [] rest = true
are_parts (Plain b ∷ parts) rest = not (ends_unquoted b) && are_parts parts rest
are_parts (Quoted bytes ∷ parts) rest = not (begins_quote (word_text parts ++ rest)) && are_parts parts rest

-- what may follow a word: the end of the text, or a blank or a tab
abbrev pub ends_word : List ℕ → Bool
ends_word [] = true
ends_word (b ∷ rest) = is_gap b

-- ---- how the first word of a text is taken

-- the bytes of a word, the place behind it, and the text from there on
pub record Cut : Type 0 where
  pub bytes : List ℕ
  pub end : ℕ
  pub behind : List ℕ

-- more bytes in front of those of a word
abbrev pub prefixed : List ℕ → Result Cut ℕ → Result Cut ℕ
prefixed bytes (Ok cut) = Ok (record { bytes = bytes ++ cut.bytes; end = cut.end; behind = cut.behind })
prefixed bytes (Err at) = Err at

-- whether a byte ends a word
abbrev pub stops : Place → ℕ → Bool
stops Outside b = is_gap b
stops (Inside opened) b = false
stops (Behind opened) b = is_gap b

-- what a byte adds to a word: a `'` nothing, unless it is the second of two in quotes
abbrev pub kept : Place → ℕ → List ℕ
kept Outside b = if b == 39 then [] else b ∷ []
kept (Inside opened) b = if b == 39 then [] else b ∷ []
kept (Behind opened) b = b ∷ []

-- where the next byte stands
abbrev pub place_after : Place → ℕ → ℕ → Place
place_after Outside at b = if b == 39 then Inside at else Outside
place_after (Inside opened) at b = if b == 39 then Behind opened else Inside opened
place_after (Behind opened) at b = if b == 39 then Inside opened else Outside

-- the end of a text ends a word, and leaves an open quote open
abbrev pub at_end : Place → ℕ → Result Cut ℕ
at_end Outside at = Ok (record { bytes = []; end = at; behind = [] })
at_end (Inside opened) at = Err opened
at_end (Behind opened) at = Ok (record { bytes = []; end = at; behind = [] })

-- the word at the head of a text that begins at a place, or the place of a quote that isn't closed
abbrev pub unquote : Place → ℕ → List ℕ → Result Cut ℕ
unquote place at [] = at_end place at
unquote place at (b ∷ rest) =
    if stops place b then Ok (record { bytes = []; end = at; behind = b ∷ rest })
    else prefixed (kept place b) (unquote (place_after place at b) (at + 1) rest)

-- the first word of a text that begins with one
unfoldable pub first_word : ℕ → List ℕ → Result Cut ℕ
first_word at text = unquote Outside at text

-- the parts of a word stand at the head of a text, and what follows may follow a word: this is how it is taken
pub record IsWord (at : ℕ) (text : List ℕ) (cut : Cut) : Type 0 where
  pub parts : List Part
  pub whole : text ≡ word_text parts ++ cut.behind
  pub apart : are_parts parts cut.behind ≡ true
  pub ends : ends_word cut.behind ≡ true
  pub means : cut.bytes ≡ word_bytes parts
  pub reach : cut.end ≡ at + length (word_text parts)

-- behind the parts of a word stand a `'` and then, up to the end of the text, bytes inside quotes: it isn't closed
pub record IsOpen (at : ℕ) (text : List ℕ) (opened : ℕ) : Type 0 where
  pub parts : List Part
  pub inside : List ℕ
  pub whole : text ≡ word_text parts ++ 39 ∷ quoted_bytes inside
  pub apart : are_parts parts (39 ∷ quoted_bytes inside) ≡ true
  pub reach : opened ≡ at + length (word_text parts)

-- how many blanks and tabs a text begins with
unfoldable pub gap_len : List ℕ → ℕ
gap_len text = position_or_len (λ b. not (is_gap b)) text
