-- When a tuple matches a template, as factotum(4) of the Plan 9 manual has it: each attribute of the template is a
-- demand on the tuple. And the value that a tuple gives to a name.
use Rattle.std.specs.Prelude.{ℕ, List, Bool, true, false, ◌&&◌, ◌==◌, length, Option, Some, None, if◌then◌else◌}
use Rattle.std.specs.List.{list_all, list_any, filter_map, slice_get}
use Rattle.attr_tuples.specs.Attributes.{is_named, is_secret}
use Rattle.attr_tuples.specs.Equality.{same_attr}
use Rattle.attr_tuples.specs.declared.attr.Attr.{Attr}
use Rattle.attr_tuples.specs.declared.attr.Value.{Value}
use Rattle.attr_tuples.specs.declared.attr.Value.TheVariants.{Is, Ask, Bare}

-- whether a tuple holds an attribute
abbrev pub holds : List Attr → Attr → Bool
holds t a = list_any (same_attr a) t

-- whether a tuple has an attribute of the name, of whatever value
abbrev pub has_name : List Attr → List ℕ → Bool
has_name t name = list_any (is_named name) t

-- a value is null where the name stands alone or is given the empty text
abbrev pub is_null : Value → Bool
is_null (Is text) = length text == 0
is_null Ask = false
is_null Bare = true

-- whether a tuple has an attribute of the name whose value is null
abbrev pub has_null : List Attr → List ℕ → Bool
has_null t name = list_any (λ a. is_named name a && is_null a.value) t

-- whether a tuple meets what a template demands: a name with a value is in it; a question, and a secret name alone,
-- want the name; a public name alone wants the name with a null value
abbrev pub meets : List Attr → List ℕ → Value → Bool
meets t name (Is text) = holds t (record { name = name; value = Is text })
meets t name Ask = has_name t name
meets t name Bare = if is_secret name then has_name t name else has_null t name

-- whether a tuple meets each demand of a template
unfoldable pub matches : List Attr → List Attr → Bool
matches template t = list_all (λ a. meets t a.name a.value) template

-- the text of a value, if one is given
abbrev pub given_text : Value → Option (List ℕ)
given_text (Is text) = Some text
given_text Ask = None
given_text Bare = None

-- the text that an attribute gives to a name, if the name is its own and it has a text
abbrev pub text_for : List ℕ → Attr → Option (List ℕ)
text_for name a = if is_named name a then given_text a.value else None

-- the texts that a tuple gives to a name, in order
abbrev pub texts_of : List ℕ → List Attr → List (List ℕ)
texts_of name attrs = filter_map (text_for name) attrs

-- the first text that a tuple gives to a name
unfoldable pub value_of : List ℕ → List Attr → Option (List ℕ)
value_of name attrs = slice_get (texts_of name attrs) 0
