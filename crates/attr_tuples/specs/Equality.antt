-- When two tuples are the same in public: their secrets aside, they hold the same attributes equally often.
use Rattle.std.specs.Prelude.{List, ◌++◌, Bool, true, false, ◌&&◌, ◌==◌, filter, count_by}
use Rattle.std.specs.List.{list_all}
use Rattle.std.specs.Str.{bytes_eq}
use Rattle.attr_tuples.specs.Attributes.{is_public}
use Rattle.attr_tuples.specs.declared.attr.Attr.{Attr}
use Rattle.attr_tuples.specs.declared.attr.Value.{Value}
use Rattle.attr_tuples.specs.declared.attr.Value.TheVariants.{Is, Ask, Bare}

-- whether two values are the same
abbrev pub same_value : Value → Value → Bool
same_value (Is x) (Is y) = bytes_eq x y
same_value (Is x) Ask = false
same_value (Is x) Bare = false
same_value Ask (Is y) = false
same_value Ask Ask = true
same_value Ask Bare = false
same_value Bare (Is y) = false
same_value Bare Ask = false
same_value Bare Bare = true

-- whether two attributes have the same name and the same value
abbrev pub same_attr : Attr → Attr → Bool
same_attr a b = bytes_eq a.name b.name && same_value a.value b.value

-- the public attributes, in order
abbrev pub public_part : List Attr → List Attr
public_part attrs = filter is_public attrs

-- whether two lists hold an attribute the same number of times
abbrev pub as_often : List Attr → List Attr → Attr → Bool
as_often xs ys a = count_by (same_attr a) xs == count_by (same_attr a) ys

-- whether two tuples hold each public attribute the same number of times, order aside
unfoldable pub public_equal : List Attr → List Attr → Bool
public_equal xs ys = list_all (as_often (public_part xs) (public_part ys)) (public_part xs ++ public_part ys)
