-- What is shown of a list of keys: the text of ctl, after factotum(4) of the Plan 9 manual, and the offers of p9any,
-- a word `p9sk1@dom` for each domain, as in authsrv(6).
use Rattle.std.specs.Prelude.{ℕ, ◌+◌, ◌-◌, List, [], ◌∷◌, ◌++◌, not, nat_lt, length, map, filter, codes, Option, None, if◌then◌else◌}
use Rattle.std.specs.List.{flat_map, filter_map, join_with_byte}
use Rattle.std.specs.Str.{bytes_eq}
use Rattle.attr_tuples.specs.declared.attr.Attr.{Attr}
use Rattle.attr_tuples.specs.Printing.{public_text}
use Rattle.attr_tuples.specs.Matching.{value_of}
use Rattle.key_lists.specs.Lists.{KeyEntry, KeyList, serves}

-- ---- the text of ctl

-- a key as it is shown: `key `, its public text, and a newline
unfoldable pub key_text : List Attr → List ℕ
key_text key = codes "key " ++ public_text key ++ 10 ∷ []

-- the keys as they are shown, in order
unfoldable pub list_text : KeyList → List ℕ
list_text list = flat_map (λ key. key_text key.tuple) list.keys

-- ---- offers

-- the domain of a key that serves, if it names one
abbrev pub dom_of : List Attr → List ℕ → KeyEntry → Option (List ℕ)
dom_of template role key = if serves template role key then value_of (codes "dom") key.tuple else None

-- the domains of the keys that serve, in the order of the list
abbrev pub doms_of : List Attr → List ℕ → List KeyEntry → List (List ℕ)
doms_of template role keys = filter_map (dom_of template role) keys

-- each text once, where it stands first
abbrev pub each_once : List (List ℕ) → List (List ℕ)
each_once [] = []
each_once (x ∷ xs) = x ∷ filter (λ y. not (bytes_eq x y)) (each_once xs)

-- the offer of a domain
abbrev pub offer_of : List ℕ → List ℕ
offer_of dom = codes "p9sk1@" ++ dom

-- the offers that find room in so many bytes, each with one byte behind it, up to the first that doesn't
abbrev pub fitting : ℕ → List (List ℕ) → List (List ℕ)
fitting room [] = []
fitting room (offer ∷ more) =
    if nat_lt (length offer) room then offer ∷ fitting (room - (length offer + 1)) more
    else []

-- how many bytes the offers have at most, with the byte behind the last one
abbrev pub most_offered : ℕ
most_offered = 1024

-- the offers of a list
unfoldable pub offers : List Attr → List ℕ → KeyList → List (List ℕ)
offers template role list = fitting most_offered (map offer_of (each_once (doms_of template role list.keys)))

-- the offers as text, with one blank between
unfoldable pub offers_text : List (List ℕ) → List ℕ
offers_text words = join_with_byte 32 words
