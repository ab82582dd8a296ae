-- Words for the steps of the ring. No public contract cites them.
use Rattle.std.specs.Prelude.{ℕ, List, [], ◌∷◌, ◌++◌, Bool, false, ◌==◌, Option, Some, None, if◌then◌else◌}
use Rattle.std.specs.List.{list_any}
use Rattle.std.specs.Str.{bytes_eq}
use Rattle.key_lists.specs.Listing.{offer_of}

-- what stands before an offer: a blank, but nothing before the first
abbrev pub gap_before : ℕ → List ℕ
gap_before count = if count == 0 then [] else 32 ∷ []

-- what an offer appends behind others
abbrev pub offer_behind : ℕ → List ℕ → List ℕ
offer_behind count dom = gap_before count ++ offer_of dom

-- whether this is the domain, if there is one
abbrev pub is_this : List ℕ → Option (List ℕ) → Bool
is_this dom None = false
is_this dom (Some other) = bytes_eq other dom

-- whether a domain is among others
abbrev pub was_seen : List ℕ → List (List ℕ) → Bool
was_seen dom others = list_any (λ other. bytes_eq other dom) others

-- a domain that isn't among others
abbrev pub unless_seen : List (List ℕ) → Option (List ℕ) → Option (List ℕ)
unless_seen others None = None
unless_seen others (Some dom) = if was_seen dom others then None else Some dom
