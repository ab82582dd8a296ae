-- Tuples as text, as factotum(4) of the Plan 9 manual writes attributes: words with one blank between, a value
-- in quotes where a reader would cut it, and what is shown of a tuple with secrets.
use Rattle.std.specs.Prelude.{ℕ, List, [], ◌∷◌, ◌++◌, map, if◌then◌else◌}
use Rattle.std.specs.List.{join_with_byte}
use Rattle.attr_tuples.specs.Words.{value_text}
use Rattle.attr_tuples.specs.Attributes.{is_secret}
use Rattle.attr_tuples.specs.declared.attr.Attr.{Attr}
use Rattle.attr_tuples.specs.declared.attr.Value.{Value}
use Rattle.attr_tuples.specs.declared.attr.Value.TheVariants.{Is, Ask, Bare}

-- what follows the name: `=` and the value, a `?`, or nothing
abbrev pub ending_text : Value → List ℕ
ending_text (Is text) = 61 ∷ value_text text
ending_text Ask = 63 ∷ []
ending_text Bare = []

-- an attribute as it is printed
abbrev pub attr_text : Attr → List ℕ
attr_text a = a.name ++ ending_text a.value

-- a tuple as it is printed: its attributes in order, with one blank between
unfoldable pub printed_text : List Attr → List ℕ
printed_text attrs = join_with_byte 32 (map attr_text attrs)

-- a secret attribute shows its name and asks for its value; any other shows as it is
abbrev pub hidden : Attr → Attr
hidden a = if is_secret a.name then record { name = a.name; value = Ask } else a

-- a tuple as it is shown: printed with its secrets hidden
unfoldable pub public_text : List Attr → List ℕ
public_text attrs = printed_text (map hidden attrs)
