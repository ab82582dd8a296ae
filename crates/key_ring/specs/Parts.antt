-- A list of keys out of its two parts, and what holds of the list of a ring. No public contract cites them.
use Rattle.std.specs.Prelude.{ℕ, List}
use Rattle.key_lists.specs.Lists.{KeyEntry, KeyList}
use Rattle.key_lists.specs.Edits.{IsBounded, IsOrdered}

-- these keys, so many ever added
abbrev pub list_of : List KeyEntry → ℕ → KeyList
list_of keys count = record { keys = keys; ever_added = count }

-- the numbers rise, no two keys are the same in public, and there are no more than a list holds
pub record IsRing (list : KeyList) : Type 0 where
  pub ordered : IsOrdered list
  pub bounded : IsBounded list
