-- What is asked of keys that are looked for by their numbers. No public contract cites this.
use Rattle.std.specs.Prelude.{ℕ, List, [], ◌∷◌, Bool, Option, Some, None, if◌then◌else◌}
use Rattle.std.specs.Option.{option_or}
use Rattle.attr_tuples.specs.Equality.{public_equal}
use Rattle.attr_tuples.specs.Matching.{matches}
use Rattle.key_lists.specs.Lists.{KeyEntry, serves}
use Rattle.key_ring.specs.Ranks.{numbered}
use Rattle.key_ring.specs.declared.wanted.Wanted.{Wanted}
use Rattle.key_ring.specs.declared.wanted.Wanted.TheVariants.{Serving, Matching, Equal}

-- whether a key is one that is looked for
abbrev pub passes : Wanted → KeyEntry → Bool
passes (Serving template role) key = serves template.now role.now key
passes (Matching template) key = matches template.now key.tuple
passes (Equal tuple) key = public_equal tuple.now key.tuple

-- a key, if it is one
abbrev pub if_passes : Wanted → Option KeyEntry → Option KeyEntry
if_passes wanted None = None
if_passes wanted (Some key) = if passes wanted key then Some key else None

-- the first key of these numbers that is one
abbrev pub first_of : Wanted → List KeyEntry → List ℕ → Option KeyEntry
first_of wanted keys [] = None
first_of wanted keys (serial ∷ serials) =
    option_or (if_passes wanted (numbered keys serial)) (first_of wanted keys serials)
