-- What the line of a question says, after factotum(4) of the Plan 9 manual. Its exact form is this project's.
use Rattle.std.specs.Prelude.{ℕ, ◌-◌, List, [], ◌∷◌, Bool, true, false, ◌==◌, length, take, drop, codes, Option, None, Result, Ok, Err, option_map, if◌then◌else◌}
use Rattle.std.specs.List.{slice_index}
use Rattle.std.specs.Str.{bytes_eq}
use Rattle.attr_tuples.specs.declared.attr.Attr.{Attr}
use Rattle.attr_tuples.specs.declared.attr.Value.{Value}
use Rattle.attr_tuples.specs.declared.attr.Value.TheVariants.{Is, Ask, Bare}
use Rattle.attr_tuples.specs.declared.fault.TupleFault.{TupleFault}
use Rattle.attr_tuples.specs.Attributes.{is_named}
use Rattle.attr_tuples.specs.Grammar.{tuple_of}
use Rattle.side_files.specs.declared.line.PromptKind.{PromptKind}
use Rattle.side_files.specs.declared.line.PromptKind.TheVariants.{Confirm, Needkey}
use Rattle.side_files.specs.declared.question.Question.{Question}
use Rattle.side_files.specs.Decimals.{number_of}

-- a line without the newline at its end, if it has one
abbrev pub without_newline : List ℕ → List ℕ
without_newline line = if slice_index line (length line - 1) == 10 then take (length line - 1) line else line

-- the number that a value is, if it is one
abbrev pub number_in : Value → Option ℕ
number_in (Is text) = number_of text
number_in Ask = None
number_in Bare = None

-- the tag that an attribute gives: it is named `tag`, and its value is a number
abbrev pub tag_in : Attr → Option ℕ
tag_in a = if is_named (codes "tag") a then number_in a.value else None

-- a question: whether it wants consent, what it is about, its tag
abbrev pub question : Bool → List Attr → ℕ → Question
question confirm attrs tag = record { confirm = confirm; tag = tag; tuple = attrs }

-- whether a question of a kind is one that wants consent
abbrev pub is_confirm : PromptKind → Bool
is_confirm Confirm = true
is_confirm Needkey = false

-- the question of attributes: the first gives its tag, the others are what it is about
abbrev pub question_in : Bool → List Attr → Option Question
question_in confirm [] = None
question_in confirm (first ∷ others) = option_map (question confirm others) (tag_in first)

-- the question of a text behind the verb, where the text is a tuple
abbrev pub asks : Bool → Result (List Attr) TupleFault → Option Question
asks confirm (Ok attrs) = question_in confirm attrs
asks confirm (Err fault) = None

-- the question that a line without its newline is
abbrev pub question_at : List ℕ → Option Question
question_at line =
    if bytes_eq (take 8 line) (codes "confirm ") then asks true (tuple_of (drop 8 line))
    else if bytes_eq (take 8 line) (codes "needkey ") then asks false (tuple_of (drop 8 line))
    else None

-- the question that a line is, if it is one
unfoldable pub question_of : List ℕ → Option Question
question_of line = question_at (without_newline line)
