-- Where keys stand in an index, and what an index of a list of keys is. No public contract cites this.
use Rattle.std.specs.Prelude.{◌≡◌, ℕ, ◌<◌, List, Bool, false, ◌==◌, filter, find, map, codes, Option, Some, None, All, AllPairs}
use Rattle.std.specs.declared.cmp.Ordering.{Ordering}
use Rattle.std.specs.declared.cmp.Ordering.TheVariants.{Greater}
use Rattle.std.specs.Ordering.{is_eq, nat_cmp, ordering_index, ordering_then}
use Rattle.std.specs.Option.{option_cmp}
use Rattle.std.specs.Cmp.Lexicographic.{slice_cmp}
use Rattle.std.specs.List.Sorted.{IsNonDecreasingBy}
use Rattle.attr_tuples.specs.declared.attr.Attr.{Attr}
use Rattle.attr_tuples.specs.Matching.{matches, value_of}
use Rattle.key_lists.specs.Lists.{KeyEntry}
use Rattle.key_ring.specs.declared.rank.Order.{Order}
use Rattle.key_ring.specs.declared.rank.Order.TheVariants as o

-- the numbers of keys rise
abbrev pub IsRising : List KeyEntry → Type 0
IsRising keys = AllPairs (λ first second. first.serial < second.serial) keys

-- the key of a number
abbrev pub numbered : List KeyEntry → ℕ → Option KeyEntry
numbered keys serial = find (λ key. key.serial == serial) keys

-- ---- where keys stand

-- a protocol and a domain, where they are given
pub record RankOf : Type 0 where
  pub proto : Option (List ℕ)
  pub dom : Option (List ℕ)

-- how texts follow on each other: none first, and then byte by byte
abbrev pub text_cmp : Option (List ℕ) → Option (List ℕ) → Ordering
text_cmp a b = option_cmp (slice_cmp nat_cmp) a b

abbrev pub rank_cmp : RankOf → RankOf → Ordering
rank_cmp a b = ordering_then (text_cmp a.proto b.proto) (text_cmp a.dom b.dom)

-- the rank of a tuple: in the order of protocols the domain doesn't count
abbrev pub rank_of : Order → List Attr → RankOf
rank_of o.Proto tuple = record { proto = value_of (codes "proto") tuple; dom = None }
rank_of o.Dom tuple = record { proto = value_of (codes "proto") tuple; dom = value_of (codes "dom") tuple }

-- where a key stands beside a rank
abbrev pub stands : Order → RankOf → KeyEntry → Ordering
stands order rank key = rank_cmp (rank_of order key.tuple) rank

-- whether a key has a rank
abbrev pub has_rank : Order → RankOf → KeyEntry → Bool
has_rank order rank key = is_eq (stands order rank key)

-- where the key of a number stands beside a rank
abbrev pub stood : Order → RankOf → Option KeyEntry → Ordering
stood order rank None = Greater
stood order rank (Some key) = stands order rank key

-- whether the key of a number matches a template
abbrev pub matched : List Attr → Option KeyEntry → Bool
matched template None = false
matched template (Some key) = matches template key.tuple

-- ---- an index

-- the numbers of all keys, in the order of their ranks, and those of one rank in the order of the keys
pub record IsIndex (order : Order) (keys : List KeyEntry) (serials : List ℕ) : Type 0 where
  pub entries : List KeyEntry
  pub numbers : serials ≡ map (λ key. key.serial) entries
  pub sorted : (rank : RankOf) → IsNonDecreasingBy (λ key. ordering_index (stands order rank key)) entries
  pub whole : (rank : RankOf) → filter (has_rank order rank) entries ≡ filter (has_rank order rank) keys
  pub known : All (λ key. numbered keys key.serial ≡ Some key) entries
  pub apart : AllPairs (λ first second. (first.serial == second.serial) ≡ false) entries
