-- Lists of keys in order, each with the number under which it was added. After factotum(4) of the Plan 9 manual: a
-- `key` line of ctl replaces the key with the same public attributes, and a `delkey` line deletes all that match. That
-- the new key stands last, under a number of its own, is this project's.
use Rattle.std.specs.Prelude.{ℕ, ◌+◌, List, [], ◌∷◌, ◌++◌, Bool, not, ◌&&◌, ◌||◌, ◌==◌, nat_le, length, filter, find, codes, Option}
use Rattle.std.specs.List.{list_any, after_first}
use Rattle.std.specs.Str.{bytes_eq}
use Rattle.attr_tuples.specs.declared.attr.Attr.{Attr}
use Rattle.attr_tuples.specs.Attributes.{is_secret, is_given}
use Rattle.attr_tuples.specs.Equality.{public_equal}
use Rattle.attr_tuples.specs.Matching.{has_name, matches}
use Rattle.key_lists.specs.declared.fault.AddFault.{AddFault}
use Rattle.key_lists.specs.declared.fault.AddFault.TheVariants.{Full}
use Rattle.key_lists.specs.declared.fault.DeleteFault.{DeleteFault}
use Rattle.key_lists.specs.declared.fault.DeleteFault.TheVariants.{SecretValue, NoneMatched}
use Rattle.wire_base.specs.Rules.{first_told}
use Rattle.attr_tuples.specs.Giving.{gives, is_any}
use Rattle.key_lists.specs.KeyFaults.{key_rules}

-- a key of a list: its attributes, and its number
pub record KeyEntry : Type 0 where
  pub tuple : List Attr
  pub serial : ℕ

-- the keys in order, and how many were ever added
pub record KeyList : Type 0 where
  pub keys : List KeyEntry
  pub ever_added : ℕ

-- no keys, and none were added
abbrev pub no_keys : KeyList
no_keys = record { keys = []; ever_added = 0 }

-- ---- adding

-- how many keys a list holds at most
abbrev pub most_keys : ℕ
most_keys = 4096

-- the list is full, and the key replaces none of it
abbrev pub is_full : List Attr → List KeyEntry → Bool
is_full key keys = nat_le most_keys (length keys) && not (list_any (λ old. public_equal key old.tuple) keys)

-- why a tuple isn't added to a list, if it isn't
unfoldable pub add_fault : List Attr → KeyList → Option AddFault
add_fault key list = first_told (key_rules key ++ (is_full key list.keys, Full) ∷ [])

-- the key under the next number
abbrev pub next_entry : List Attr → KeyList → KeyEntry
next_entry key list = record { tuple = key; serial = list.ever_added + 1 }

-- the list with a key added: those that are the same in public are dropped, and the new one stands last
abbrev pub added : List Attr → KeyList → KeyList
added key list = record {
  keys = filter (λ old. not (public_equal key old.tuple)) list.keys ++ next_entry key list ∷ [];
  ever_added = list.ever_added + 1;
}

-- ---- deleting

-- a secret attribute that is given a value, an empty one too
abbrev pub tells_secret : Attr → Bool
tells_secret a = is_secret a.name && is_given is_any a.value

-- how many keys match a template
abbrev pub matching : List Attr → KeyList → ℕ
matching template list = length (filter (λ key. matches template key.tuple) list.keys)

-- why nothing is deleted by a template, if nothing is
unfoldable pub delete_fault : List Attr → KeyList → Option DeleteFault
delete_fault template list =
    first_told ((list_any tells_secret template, SecretValue) ∷ (matching template list == 0, NoneMatched) ∷ [])

-- the list without the keys that match a template
abbrev pub deleted : List Attr → KeyList → KeyList
deleted template list = record {
  keys = filter (λ key. not (matches template key.tuple)) list.keys;
  ever_added = list.ever_added;
}

-- ---- finding

-- a key serves a template and a role: it matches the template, and it either names no role or holds this one
abbrev pub serves : List Attr → List ℕ → KeyEntry → Bool
serves template role key = matches template key.tuple
    && (not (has_name key.tuple (codes "role")) || gives (codes "role") (λ text. bytes_eq text role) key.tuple)

-- the first key that serves
abbrev pub first_serving : List Attr → List ℕ → KeyList → Option KeyEntry
first_serving template role list = find (serves template role) list.keys

-- the first key that serves behind the key of a number; none where there is no key of that number
abbrev pub next_serving : List Attr → List ℕ → ℕ → KeyList → Option KeyEntry
next_serving template role serial list =
    find (serves template role) (after_first (λ key. key.serial == serial) list.keys)
