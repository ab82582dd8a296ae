-- Attributes, as factotum(4) of the Plan 9 manual has them: a name, and a value, a question for one, or neither.
-- And which of them a line of text can give.
use Rattle.std.specs.Prelude.{ℕ, List, [], ◌∷◌, Bool, true, false, not, ◌&&◌, ◌==◌, nat_lt, nat_le, length, filter, codes}
use Rattle.std.specs.List.{list_all}
use Rattle.std.specs.Str.{bytes_eq}
use Rattle.wire_base.specs.Texts.{is_text}
use Rattle.attr_tuples.specs.Lines.{is_line_byte}
use Rattle.attr_tuples.specs.declared.attr.Attr.{Attr}
use Rattle.attr_tuples.specs.declared.attr.Value.{Value}
use Rattle.attr_tuples.specs.declared.attr.Value.TheVariants.{Is, Ask, Bare}

-- a name that begins with `!` is secret
abbrev pub is_secret : List ℕ → Bool
is_secret [] = false
is_secret (first ∷ rest) = first == 33

-- an attribute whose name isn't secret is public
abbrev pub is_public : Attr → Bool
is_public a = not (is_secret a.name)

-- whether an attribute has the name
abbrev pub is_named : List ℕ → Attr → Bool
is_named name a = bytes_eq a.name name

-- whether just one attribute has the name
abbrev pub is_named_once : List ℕ → List Attr → Bool
is_named_once name attrs = length (filter (is_named name) attrs) == 1

-- whether a value is given and passes a test
abbrev pub is_given : (List ℕ → Bool) → Value → Bool
is_given test (Is text) = test text
is_given test Ask = false
is_given test Bare = false

-- a byte of a name: from 0x21 on, and none of `'`, `=` and `?`
abbrev pub is_name_byte : ℕ → Bool
is_name_byte b = nat_le 33 b && (not (b == 39) && (not (b == 61) && not (b == 63)))

-- a name: text of such bytes, neither empty nor `!` alone
abbrev pub is_name : List ℕ → Bool
is_name name = nat_lt 0 (length name)
    && (not (bytes_eq name (codes "!")) && (list_all is_name_byte name && is_text name))

-- a value: text of the bytes of a line, if it is given
abbrev pub is_value : Value → Bool
is_value (Is text) = list_all is_line_byte text && is_text text
is_value Ask = true
is_value Bare = true

-- an attribute that a line of text can give
abbrev pub is_attr : Attr → Bool
is_attr a = is_name a.name && is_value a.value

-- a tuple: at most 36 such attributes
abbrev pub is_tuple : List Attr → Bool
is_tuple attrs = nat_le (length attrs) 36 && list_all is_attr attrs
