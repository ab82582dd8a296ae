-- Of the code alone: the slab's keys by the numbers of conversations.
use Rattle.std.specs.Prelude.{ℕ, List, Option}
use Rattle.std.specs.Map.{lookup}
use Rattle.std.specs.Ordering.{nat_cmp}
use Rattle.std.specs.BTreeMap.{is_at}

-- the key of a number
abbrev pub key_at : List (ℕ × ℕ) → ℕ → Option ℕ
key_at keys conv = lookup (is_at (nat_cmp conv)) keys
