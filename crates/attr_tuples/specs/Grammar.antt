-- Tuples as they are read, after factotum(4) of the Plan 9 manual: words with blanks and tabs between, each an
-- attribute. What a text says (Reads), and what is wrong with one that says nothing (Refuses), are relations between
-- whole texts and answers; how a text is read from left to right (tuple_of) is given apart, and they agree by law.
use Rattle.std.specs.Prelude.{◌≡◌, ℕ, zero, suc, ◌+◌, ◌-◌, ◌<◌, List, [], ◌∷◌, ◌++◌, Bool, true, false, ◌&&◌, ◌==◌, nat_lt, length, take, drop, position, Option, Some, None, Result, Ok, Err, if◌then◌else◌}
use Rattle.std.specs.List.{slice_index}
use Rattle.attr_tuples.specs.Lines.{is_line, line_len}
use Rattle.attr_tuples.specs.Words.{Part, Cut, IsWord, IsOpen, is_gap, word_text, word_bytes, are_parts, ends_word, first_word, gap_len}
use Rattle.attr_tuples.specs.Attributes.{is_name, is_tuple}
use Rattle.attr_tuples.specs.declared.attr.Attr.{Attr}
use Rattle.attr_tuples.specs.declared.attr.Value.TheVariants.{Is, Ask, Bare}
use Rattle.attr_tuples.specs.declared.fault.TupleFault.{TupleFault}
use Rattle.attr_tuples.specs.declared.fault.TupleFault.TheVariants.{NotText, Quote, Name, TooMany, NoMemory}

-- ---- the attribute of a word

-- a word without `=` that ends in `?` asks; any other is a name alone
abbrev pub asking : List ℕ → Attr
asking word =
    if slice_index word (length word - 1) == 63 then record { name = take (length word - 1) word; value = Ask }
    else record { name = word; value = Bare }

-- a word, cut at the place of its first `=` if it has one
abbrev pub cut_at : List ℕ → Option ℕ → Attr
cut_at word (Some at) = record { name = take at word; value = Is (drop (at + 1) word) }
cut_at word None = asking word

-- the attribute that a word without its quotes is
unfoldable pub attr_of : List ℕ → Attr
attr_of word = cut_at word (position (λ b. b == 61) word)

-- ---- what a text says

-- A text is made of pieces.
pub data Piece : Type 0 where
  -- a blank or a tab
  Gap : (b : ℕ) → Piece
  -- a word, in its parts
  Word : (parts : List Part) → Piece

abbrev pub pieces_text : List Piece → List ℕ
pieces_text [] = []
pieces_text (Gap b ∷ pieces) = b ∷ pieces_text pieces
pieces_text (Word parts ∷ pieces) = word_text parts ++ pieces_text pieces

-- whether parts are a word, in front of the rest of a text
abbrev pub is_word : List Part → List ℕ → Bool
is_word parts rest = nat_lt 0 (length parts) && (are_parts parts rest && ends_word rest)

-- whether pieces may stand side by side, in front of the rest of a text: behind a word comes a blank or a tab, or the
-- end
abbrev pub are_pieces : List Piece → List ℕ → Bool
are_pieces [] rest = true
are_pieces (Gap b ∷ pieces) rest = is_gap b && are_pieces pieces rest
are_pieces (Word parts ∷ pieces) rest = is_word parts (pieces_text pieces ++ rest) && are_pieces pieces rest

-- the attributes of the words, in order
abbrev pub attrs_of : List Piece → List Attr
attrs_of [] = []
attrs_of (Gap b ∷ pieces) = attrs_of pieces
attrs_of (Word parts ∷ pieces) = attr_of (word_bytes parts) ∷ attrs_of pieces

-- a line that is made of pieces says the tuple of their attributes, where that is one
pub record Reads (text : List ℕ) (attrs : List Attr) : Type 0 where
  pub pieces : List Piece
  pub line : is_line text ≡ true
  pub whole : text ≡ pieces_text pieces
  pub apart : are_pieces pieces [] ≡ true
  pub means : attrs ≡ attrs_of pieces
  pub valid : is_tuple attrs ≡ true

-- ---- what is wrong with a text

-- a place in a line where a word begins, and all before it is well: the rest of the text, and the attributes so far
pub record Reaches (text : List ℕ) (at : ℕ) (rest : List ℕ) (attrs : List Attr) : Type 0 where
  pub pieces : List Piece
  pub line : is_line text ≡ true
  pub whole : text ≡ pieces_text pieces ++ rest
  pub apart : are_pieces pieces rest ≡ true
  pub begins : ends_word rest ≡ false
  pub reach : at ≡ length (pieces_text pieces)
  pub means : attrs ≡ attrs_of pieces
  pub valid : is_tuple attrs ≡ true

-- fewer than 36 attributes stand before a quote that isn't closed, in a word that begins somewhere
pub record HasOpenQuote (text : List ℕ) (at : ℕ) : Type 0 where
  pub begin : ℕ
  pub rest : List ℕ
  pub attrs : List Attr
  pub reaches : Reaches text begin rest attrs
  pub few : length attrs < 36
  pub word : IsOpen begin rest at

-- fewer than 36 attributes stand before a word whose name is none
pub record HasBadName (text : List ℕ) (at : ℕ) : Type 0 where
  pub rest : List ℕ
  pub attrs : List Attr
  pub cut : Cut
  pub reaches : Reaches text at rest attrs
  pub few : length attrs < 36
  pub word : IsWord at rest cut
  pub bad : is_name (attr_of cut.bytes).name ≡ false

-- a word stands behind 36 attributes
pub record HasTooMany (text : List ℕ) : Type 0 where
  pub begin : ℕ
  pub rest : List ℕ
  pub attrs : List Attr
  pub reaches : Reaches text begin rest attrs
  pub many : length attrs ≡ 36

-- the fault of a text; want of memory is none
abbrev pub Refuses : List ℕ → TupleFault → Type 0
Refuses text (NotText at) = (at ≡ line_len text) × (at < length text)
Refuses text (Quote at) = HasOpenQuote text at
Refuses text (Name at) = HasBadName text at
Refuses text TooMany = HasTooMany text
Refuses text NoMemory = ⊥

-- ---- how a text is read

-- one attribute in front of others
abbrev pub put_first : Attr → Result (List Attr) TupleFault → Result (List Attr) TupleFault
put_first a (Ok attrs) = Ok (a ∷ attrs)
put_first a (Err fault) = Err fault

-- a word that is taken is an attribute, where its name is one, and then the others follow
abbrev pub taken : ℕ → Result Cut ℕ → (Cut → Result (List Attr) TupleFault) → Result (List Attr) TupleFault
taken at (Ok cut) others =
    if is_name (attr_of cut.bytes).name then put_first (attr_of cut.bytes) (others cut)
    else Err (Name at)
taken at (Err opened) others = Err (Quote opened)

-- the attributes of the rest of a text, where its next word begins at a place and so many more may follow
abbrev pub words_at : ℕ → ℕ → List ℕ → Result (List Attr) TupleFault
words_at zero at [] = Ok []
words_at zero at (b ∷ rest) = Err TooMany
words_at (suc n) at [] = Ok []
words_at (suc n) at (b ∷ rest) = taken at (first_word at (b ∷ rest))
    (λ cut. words_at n (cut.end + gap_len cut.behind) (drop (gap_len cut.behind) cut.behind))

-- the same behind the blanks and tabs at a place
unfoldable pub words_from : ℕ → ℕ → List ℕ → Result (List Attr) TupleFault
words_from n at text = words_at n (at + gap_len text) (drop (gap_len text) text)

-- the tuple of a text, or its first fault: whether it is a line comes first
unfoldable pub tuple_of : List ℕ → Result (List Attr) TupleFault
tuple_of text = if line_len text == length text then words_from 36 0 text else Err (NotText (line_len text))

-- ---- what is answered

-- what a text says or what is wrong with it, unless memory ran out
abbrev pub Answers : Result (List Attr) TupleFault → Result (List Attr) TupleFault → Type 0
Answers (Ok attrs) reading = reading ≡ Ok attrs
Answers (Err (NotText at)) reading = reading ≡ Err (NotText at)
Answers (Err (Quote at)) reading = reading ≡ Err (Quote at)
Answers (Err (Name at)) reading = reading ≡ Err (Name at)
Answers (Err TooMany) reading = reading ≡ Err TooMany
Answers (Err NoMemory) reading = Unit {0}
