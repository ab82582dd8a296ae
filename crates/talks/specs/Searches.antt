-- How a key is searched for among the keys of a moment. After factotum(4) of the Plan 9 manual: a key with the
-- attribute `confirm` is used only where the user agrees, who is asked through the file confirm; where there is no
-- key, he is asked for one through the file needkey. What a file that nobody has open comes to, and the order, are
-- this project's.
use Rattle.std.specs.Prelude.{ℕ, List, Bool, not, ◌&&◌, ◌||◌, ◌==◌, nat_lt, length, filter, find, position, take, codes, is_some, Option, Some, None, unwrap_or, if◌then◌else◌}
use Rattle.std.specs.List.{list_any}
use Rattle.attr_tuples.specs.declared.attr.Attr.{Attr}
use Rattle.attr_tuples.specs.Matching.{has_name}
use Rattle.key_lists.specs.Lists.{KeyEntry, KeyList, first_serving, serves}
use Rattle.key_lists.specs.Listing.{most_offered, offers, offers_text}
use Rattle.talks.specs.declared.said.Said.{Said}
use Rattle.talks.specs.declared.said.Asking.{Asking}
use Rattle.talks.specs.Calls.{Found, Chosen, AsksConsent, AsksKey, Denied, NoneServes}

-- the user is to be asked before the key is used
abbrev pub wants_consent : KeyEntry → Bool
wants_consent key = has_name key.tuple (codes "confirm")

abbrev pub is_among : List ℕ → KeyEntry → Bool
is_among serials key = list_any (λ serial. serial == key.serial) serials

-- the user denied it, or didn't agree and can't be asked
abbrev pub is_refused : Said → Asking → KeyEntry → Bool
is_refused said asking key = is_among said.denied key || (not (is_among said.agreed key) && not asking.confirm)

-- a key may not be used about which he is to be asked, where he refuses it
abbrev pub is_passed_over : Said → Asking → KeyEntry → Bool
is_passed_over said asking key = wants_consent key && is_refused said asking key

-- the keys that serve a template and a role, in order
abbrev pub serving : List Attr → List ℕ → KeyList → List KeyEntry
serving template role list = filter (serves template role) list.keys

-- the first of them that may be used, or asked about
abbrev pub first_left : Said → Asking → List KeyEntry → Option KeyEntry
first_left said asking keys = find (λ key. not (is_passed_over said asking key)) keys

-- a key is passed over, or one was denied
abbrev pub is_denied : Said → Asking → List KeyEntry → Bool
is_denied said asking keys = list_any (is_passed_over said asking) keys || nat_lt 0 (length said.denied)

-- what is found where no key is left
abbrev pub none_left : Said → Asking → List KeyEntry → Found
none_left said asking keys =
    if is_denied said asking keys then Denied
    else if asking.needkey && not said.asked then AsksKey
    else NoneServes

-- what is found where a key is left
abbrev pub one_left : Said → KeyEntry → Found
one_left said key = if wants_consent key && not (is_among said.agreed key) then AsksConsent key else Chosen key

-- what is found among keys that serve, where this is the first that is left, or none is
abbrev pub found_at : Said → Asking → List KeyEntry → Option KeyEntry → Found
found_at said asking keys (Some key) = one_left said key
found_at said asking keys None = none_left said asking keys

abbrev pub found_among : Said → Asking → List KeyEntry → Found
found_among said asking keys = found_at said asking keys (first_left said asking keys)

-- what a search for a key that serves a template and a role comes to
unfoldable pub found_by : List Attr → List ℕ → Said → Asking → KeyList → Found
found_by template role said asking list = found_among said asking (serving template role list)

-- ---- offers, and a pick. Nobody is asked for his consent to these: it is asked for when a key is used

-- what the keys that serve offer, as a list
abbrev pub offered_by : List Attr → List ℕ → KeyList → List ℕ
offered_by template role list = offers_text (offers template role list)

-- some key serves
abbrev pub is_served : List ℕ → KeyList → List Attr → Bool
is_served role list template = is_some (first_serving template role list)

-- the place of the first template that a key serves, and of the first at all where none is served; of no more templates
-- than a list of offers has bytes
unfoldable pub picked_by : List (List Attr) → List ℕ → KeyList → ℕ
picked_by templates role list = unwrap_or (position (is_served role list) (take most_offered templates)) 0
