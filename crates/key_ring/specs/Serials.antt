-- The numbers of the keys of a protocol, or of a protocol and a domain. After factotum(4) of the Plan 9 manual, where a
-- search for a key begins with its `proto` and its `dom`.
use Rattle.std.specs.Prelude.{ℕ, List, Bool, true, ◌&&◌, filter, map, codes, Option, Some, None}
use Rattle.attr_tuples.specs.declared.attr.Attr.{Attr}
use Rattle.attr_tuples.specs.declared.attr.Value.TheVariants.{Is}
use Rattle.attr_tuples.specs.Matching.{holds}
use Rattle.key_lists.specs.Lists.{KeyList}

-- whether a tuple holds `dom=dom`, where a domain is asked for
abbrev pub holds_dom : List Attr → Option (List ℕ) → Bool
holds_dom tuple None = true
holds_dom tuple (Some dom) = holds tuple (record { name = codes "dom"; value = Is dom })

-- whether a tuple holds `proto=proto`, and the domain that is asked for
abbrev pub is_of : List ℕ → Option (List ℕ) → List Attr → Bool
is_of proto dom tuple = holds tuple (record { name = codes "proto"; value = Is proto }) && holds_dom tuple dom

-- the numbers of the keys of a list that do, in the order of the list
unfoldable pub serials_of : List ℕ → Option (List ℕ) → KeyList → List ℕ
serials_of proto dom list = map (λ key. key.serial) (filter (λ key. is_of proto dom key.tuple) list.keys)
