-- Keys with their indices. No public contract cites this.
use Rattle.std.specs.Prelude.{◌≡◌, ℕ, List, Bool, true, min, All, Option, None, Some, codes}
use Rattle.attr_tuples.specs.declared.attr.Attr.{Attr}
use Rattle.attr_tuples.specs.Matching.{value_of}
use Rattle.key_lists.specs.KeyFaults.{key_fault}
use Rattle.key_lists.specs.Lists.{KeyEntry}
use Rattle.key_ring.specs.declared.rank.Order.TheVariants as o
use Rattle.key_ring.specs.Ranks.{IsIndex, IsRising}
use Rattle.key_ring.specs.Serials.{is_of}

-- keys, and how many more find room
pub record Indexed : Type 0 where
  pub keys : List KeyEntry
  pub room : ℕ

-- the least of three rooms
abbrev pub least : ℕ → ℕ → ℕ → ℕ
least a b c = min a (min b c)

-- the numbers of the keys rise, each is a key, and both indices are what the keys say
pub record IsIndexed (keys : List KeyEntry) (protos doms : List ℕ) : Type 0 where
  pub rising : IsRising keys
  pub valid : All (λ key. key_fault key.tuple ≡ None) keys
  pub by_proto : IsIndex o.Proto keys protos
  pub by_dom : IsIndex o.Dom keys doms

-- whether a key has the protocol that a template gives, and the domain that it gives
abbrev pub asked_by : Option (List ℕ) → Option (List ℕ) → List Attr → Bool
asked_by None dom tuple = true
asked_by (Some proto) dom tuple = is_of proto dom tuple

abbrev pub is_asked_for : List Attr → List Attr → Bool
is_asked_for template tuple = asked_by (value_of (codes "proto") template) (value_of (codes "dom") template) tuple
