-- What a tuple gives to a name: whether some attribute of the name has a value, and whether that value is what it
-- should be. After factotum(4) of the Plan 9 manual.
use Rattle.std.specs.Prelude.{ℕ, List, Bool, true, ◌&&◌}
use Rattle.std.specs.List.{list_any}
use Rattle.attr_tuples.specs.declared.attr.Attr.{Attr}
use Rattle.attr_tuples.specs.Attributes.{is_named, is_named_once, is_given}

-- any value, an empty one too
abbrev pub is_any : List ℕ → Bool
is_any text = true

-- some attribute of the name is given a value that passes a test
abbrev pub gives : List ℕ → (List ℕ → Bool) → List Attr → Bool
gives name test attrs = list_any (λ a. is_named name a && is_given test a.value) attrs

-- just one attribute has the name, and it is given a value that passes a test
abbrev pub gives_once : List ℕ → (List ℕ → Bool) → List Attr → Bool
gives_once name test attrs = is_named_once name attrs && gives name test attrs
