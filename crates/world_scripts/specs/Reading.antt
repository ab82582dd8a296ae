-- How a line is read, from the left. What a text is read as and how a line is written are given apart; that they
-- agree is a law.
use Rattle.std.specs.Prelude.{ℕ, List, [], ◌∷◌, Bool, ◌&&◌, ◌||◌, ◌==◌, nat_le, length, Option, Some, None, option_map, codes, if◌then◌else◌}
use Rattle.std.specs.List.{find, list_all, slice_split}
use Rattle.std.specs.Result.{result_unwrap_or}
use Rattle.std.specs.Str.{bytes_eq}
use Rattle.hex.specs.Hex.{decode_of}
use Rattle.world_scripts.specs.Pieces.{Piece, Spelled, Whole, Part, are_pairs, is_number}
use Rattle.world_scripts.specs.Lines.{ScriptLine, Dom, AsKey, AsSpeak, Reload, Node, Restart, Ctl, Open, Start, Read, Write, Answer, NoAnswer, AsGive, Close, is_name, is_domain}
use Rattle.world_scripts.specs.declared.line.Verb.{Verb}
use Rattle.world_scripts.specs.declared.line.Verb.TheVariants as v

-- one part and then another; a part that can't be read ends it
infixl 10 ◌>>=◌
abbrev pub ◌>>=◌ : {A B : Type 0} → Option A → (A → Option B) → Option B
(Some x) >>= f = f x
None >>= f = None

-- what stands before the first byte of a text that is c, and what stands behind it
abbrev pub cut_at : ℕ → List ℕ → Option (List ℕ × List ℕ)
cut_at c [] = None
cut_at c (b ∷ text) = if b == c then Some ([], text) else option_map (λ cut. (b ∷ cut.0, cut.1)) (cut_at c text)

-- ---- words

-- the name that a text is
abbrev pub name_of : List ℕ → Option (List ℕ)
name_of text = if is_name text then Some text else None

-- a hexadecimal digit in lower case
abbrev pub is_lower_digit : ℕ → Bool
is_lower_digit b = nat_le 48 b && nat_le b 57 || nat_le 97 b && nat_le b 102

-- the eight bytes that a text spells
abbrev pub random_of : List ℕ → Option (List ℕ)
random_of text =
    if (length text == 16) && list_all is_lower_digit text then Some (result_unwrap_or (decode_of text) [])
    else None

-- a name and what stands behind the blank behind it
abbrev pub name_before : List ℕ → Option (List ℕ × List ℕ)
name_before text = do
  cut ← cut_at 32 text
  name ← name_of cut.0
  Some (name, cut.1)

-- the same of eight bytes
abbrev pub random_before : List ℕ → Option (List ℕ × List ℕ)
random_before text = do
  cut ← cut_at 32 text
  random ← random_of cut.0
  Some (random, cut.1)

-- ---- pieces

-- the digits of the number that a text is
abbrev pub number_of : List ℕ → Option (List ℕ)
number_of text = if is_number text then Some text else None

-- bytes of a message, by what stands before the first `:` and behind it
abbrev pub part_of : List ℕ → List ℕ → Option Piece
part_of front rest = do
  message ← number_of front
  cut ← cut_at 58 rest
  start ← number_of cut.0
  len ← number_of cut.1
  Some (Part message start len)

-- a message whole, or bytes of it
abbrev pub message_in : List ℕ → Option (List ℕ × List ℕ) → Option Piece
message_in text None = option_map Whole (number_of text)
message_in text (Some cut) = part_of cut.0 cut.1

abbrev pub message_of : List ℕ → Option Piece
message_of text = message_in text (cut_at 58 text)

-- digits in pairs
abbrev pub pairs_of : List ℕ → Option Piece
pairs_of text = if are_pairs text then Some (Spelled text) else None

-- the piece that a text is
abbrev pub piece_of : List ℕ → Option Piece
piece_of [] = None
piece_of (b ∷ text) = if b == 120 then pairs_of text else if b == 109 then message_of text else None

-- the pieces that texts are, where each is one
abbrev pub each_piece : List (List ℕ) → Option (List Piece)
each_piece [] = Some []
each_piece (text ∷ texts) = do
  piece ← piece_of text
  pieces ← each_piece texts
  Some (piece ∷ pieces)

-- the pieces that a text is, with `+` between them
abbrev pub pieces_of : List ℕ → Option (List Piece)
pieces_of text = each_piece (slice_split (λ b. b == 43) text)

-- ---- lines

-- the first word of a line that has more than one
abbrev pub verb_name : Verb → List ℕ
verb_name v.Dom = codes "dom"
verb_name v.AsKey = codes "askey"
verb_name v.AsSpeak = codes "asspeak"
verb_name v.Node = codes "node"
verb_name v.Restart = codes "restart"
verb_name v.Ctl = codes "ctl"
verb_name v.Open = codes "open"
verb_name v.Start = codes "start"
verb_name v.Read = codes "read"
verb_name v.Write = codes "write"
verb_name v.Answer = codes "answer"
verb_name v.NoAnswer = codes "noanswer"
verb_name v.AsGive = codes "asgive"
verb_name v.Close = codes "close"

abbrev pub verbs : List Verb
verbs = v.Dom ∷ v.AsKey ∷ v.AsSpeak ∷ v.Node ∷ v.Restart ∷ v.Ctl ∷ v.Open ∷ v.Start ∷ v.Read ∷ v.Write ∷ v.Answer
    ∷ v.NoAnswer ∷ v.AsGive ∷ v.Close ∷ []

-- the verb whose name a text is
abbrev pub verb_of : List ℕ → Option Verb
verb_of text = find (λ verb. bytes_eq text (verb_name verb)) verbs

-- the line of a name and of pieces
abbrev pub with_pieces : (List ℕ → List Piece → ScriptLine) → List ℕ → Option ScriptLine
with_pieces line text = do
  conv ← name_before text
  pieces ← pieces_of conv.1
  Some (line conv.0 pieces)

abbrev pub dom_of : List ℕ → Option ScriptLine
dom_of text = if is_domain text then Some (Dom text) else None

abbrev pub ctl_of : List ℕ → Option ScriptLine
ctl_of text = do
  node ← name_before text
  Some (Ctl node.0 node.1)

abbrev pub open_of : List ℕ → Option ScriptLine
open_of text = do
  node ← name_before text
  conv ← name_of node.1
  Some (Open node.0 conv)

abbrev pub start_of : List ℕ → Option ScriptLine
start_of text = do
  conv ← name_before text
  random ← random_before conv.1
  Some (Start conv.0 random.0 random.1)

abbrev pub asgive_of : List ℕ → Option ScriptLine
asgive_of text = do
  session ← name_before text
  cut ← cut_at 32 session.1
  pieces ← pieces_of cut.0
  first ← random_before cut.1
  second ← random_before first.1
  third ← random_of second.1
  Some (AsGive session.0 pieces first.0 second.0 third)

-- the line of a verb and what stands behind the blank behind it
abbrev pub line_behind : Verb → List ℕ → Option ScriptLine
line_behind v.Dom text = dom_of text
line_behind v.AsKey text = Some (AsKey text)
line_behind v.AsSpeak text = Some (AsSpeak text)
line_behind v.Node text = option_map Node (name_of text)
line_behind v.Restart text = option_map Restart (name_of text)
line_behind v.Ctl text = ctl_of text
line_behind v.Open text = open_of text
line_behind v.Start text = start_of text
line_behind v.Read text = option_map Read (name_of text)
line_behind v.Write text = with_pieces Write text
line_behind v.Answer text = with_pieces Answer text
line_behind v.NoAnswer text = option_map NoAnswer (name_of text)
line_behind v.AsGive text = asgive_of text
line_behind v.Close text = option_map Close (name_of text)

-- the line that is one word
abbrev pub word_alone : List ℕ → Option ScriptLine
word_alone text = if bytes_eq text (codes "reload") then Some Reload else None

-- the line of a text, by what stands before its first blank and behind it
abbrev pub line_in : List ℕ → Option (List ℕ × List ℕ) → Option ScriptLine
line_in text None = word_alone text
line_in text (Some cut) = do
  verb ← verb_of cut.0
  line_behind verb cut.1

-- the line that a text is
unfoldable pub line_of : List ℕ → Option ScriptLine
line_of text = line_in text (cut_at 32 text)
