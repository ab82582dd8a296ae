-- What the lines of ctl make of the keys, and words in which the laws of it are stated. A history of lines is a list of
-- those that were accepted, the newest first, so that what stands behind a line is the history before it.
use Rattle.std.specs.Prelude.{◌≡◌, ℕ, ◌+◌, ◌<◌, ◌≤◌, List, [], ◌∷◌, Bool, false, if◌then◌else◌, All, AllPairs, length}
use Rattle.std.specs.List.{list_any}
use Rattle.attr_tuples.specs.declared.attr.Attr.{Attr}
use Rattle.attr_tuples.specs.Equality.{public_equal}
use Rattle.attr_tuples.specs.Matching.{matches}
use Rattle.key_lists.specs.Lists.{KeyEntry, KeyList, no_keys, added, deleted, most_keys}

-- An accepted line of ctl on keys: it adds a key, or deletes those that match a template.
pub data KeyEdit : Type 0 where
  Add : (key : List Attr) → KeyEdit
  Delete : (template : List Attr) → KeyEdit

-- the keys after some lines, one step a line
abbrev pub keys_after : List KeyEdit → KeyList
keys_after [] = no_keys
keys_after (Add key ∷ before) = added key (keys_after before)
keys_after (Delete template ∷ before) = deleted template (keys_after before)

-- ---- the same in other words, over lines in the order in which they came

-- whether a line drops a key: it adds one that is the same in public, or deletes by a template that the key matches
abbrev pub drops : List Attr → KeyEdit → Bool
drops key (Add newer) = public_equal newer key
drops key (Delete template) = matches template key

-- of the keys that lines add, the oldest first, those that no later line drops; a key's number tells how many keys
-- were added up to it, `earlier` of them before these lines
abbrev pub standing : ℕ → List KeyEdit → List KeyEntry
standing earlier [] = []
standing earlier (Add key ∷ later) =
    if list_any (drops key) later then standing (earlier + 1) later
    else record { tuple = key; serial = earlier + 1 } ∷ standing (earlier + 1) later
standing earlier (Delete template ∷ later) = standing earlier later

-- how many lines add a key
abbrev pub additions : List KeyEdit → ℕ
additions [] = 0
additions (Add key ∷ rest) = additions rest + 1
additions (Delete template ∷ rest) = additions rest

-- ---- what holds of every list that lines make

-- the numbers rise in the order of the list, so that none comes twice; they lie between 1 and the number of keys that
-- were ever added; and no two keys are the same in public
pub record IsOrdered (list : KeyList) : Type 0 where
  pub rising : AllPairs (λ first second. first.serial < second.serial) list.keys
  pub counted : All (λ key. (1 ≤ key.serial) × (key.serial ≤ list.ever_added)) list.keys
  pub apart : AllPairs (λ first second. public_equal first.tuple second.tuple ≡ false) list.keys

-- there are no more keys than a list holds
pub record IsBounded (list : KeyList) : Type 0 where
  pub few : length list.keys ≤ most_keys
