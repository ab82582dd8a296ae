-- Tuples merged: what the first says stays, and the second says more.
use Rattle.std.specs.Prelude.{◌≡◌, ◌<◌, List, ◌++◌, Bool, not, length, filter, Result, Ok, Err}
use Rattle.attr_tuples.specs.declared.attr.Attr.{Attr}
use Rattle.attr_tuples.specs.declared.fault.MergeFault.{MergeFault}
use Rattle.attr_tuples.specs.declared.fault.MergeFault.TheVariants.{TooMany, NoMemory}
use Rattle.attr_tuples.specs.Matching.{has_name}

-- whether an attribute's name is none of a tuple's
abbrev pub is_new : List Attr → Attr → Bool
is_new a x = not (has_name a x.name)

-- the attributes of one, and behind them those of another whose names the first lacks
abbrev pub merged : List Attr → List Attr → List Attr
merged a b = a ++ filter (is_new a) b

-- the merged attributes where they are at most 36, and a fault exactly where they are more, unless memory ran out
abbrev pub Merges : Result (List Attr) MergeFault → List Attr → List Attr → Type 0
Merges (Ok t) a b = t ≡ merged a b
Merges (Err TooMany) a b = 36 < length (merged a b)
Merges (Err NoMemory) a b = Unit {0}
