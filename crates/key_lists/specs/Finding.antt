-- Looking for keys one after the other, and what is read of a text of offers (authsrv(6) of the Plan 9 manual: words
-- `p9sk1@dom` with blanks between). In words in which laws are stated.
use Rattle.std.specs.Prelude.{ℕ, zero, suc, List, [], ◌∷◌, not, ◌==◌, length, map, drop, Option, Some, None}
use Rattle.std.specs.List.{filter, slice_split}
use Rattle.attr_tuples.specs.declared.attr.Attr.{Attr}
use Rattle.key_lists.specs.Lists.{KeyEntry, KeyList, next_serving}

-- the keys that are found one after the other, each behind the one before, so many turns at most
abbrev pub in_turn : List Attr → List ℕ → KeyList → ℕ → Option KeyEntry → List KeyEntry
in_turn template role list turns None = []
in_turn template role list zero (Some key) = []
in_turn template role list (suc turns) (Some key) =
    key ∷ in_turn template role list turns (next_serving template role key.serial list)

-- the words of a text with blanks between
abbrev pub words_of : List ℕ → List (List ℕ)
words_of text = filter (λ word. not (length word == 0)) (slice_split (λ b. b == 32) text)

-- the domains of a text of offers: its words without their `p9sk1@`
abbrev pub offered_doms : List ℕ → List (List ℕ)
offered_doms text = map (λ word. drop 6 word) (words_of text)
