-- Key names. The tables of the authentication server may be read again, and give a user another key: so a secret isn't
-- told by a user's name alone. The key name of a user in the tables of a number is his name, a blank, and the number of
-- the first tables in which he has this same key with this same password; where that number is 0 it is his name alone.
-- The form is this project's.
use Rattle.std.specs.Prelude.{◌≡◌, ◌↔◌, ℕ, zero, suc, ◌<◌, ◌^◌, List, [], ◌∷◌, ◌++◌, All, Bool, true, false, ◌&&◌, filter, is_some, length, map, take, Option, Some, None, if◌then◌else◌}
use Rattle.std.specs.Str.{bytes_eq}
use Rattle.std.specs.Fmt.{decimal}
use Rattle.auth_tables.specs.Keys.{UserKey, key_of}
use Rattle.wire_histories.specs.Legal.{Setting, Tables, known_at, tables_at}

-- ---- the same key

abbrev pub same_password : Option (List ℕ) → Option (List ℕ) → Bool
same_password None None = true
same_password (Some a) (Some b) = bytes_eq a b
same_password a b = false

abbrev pub same_key : UserKey → UserKey → Bool
same_key a b = bytes_eq a.des b.des && same_password a.password b.password

-- tables hold a user with this key and this password
abbrev pub is_this : UserKey → Option UserKey → Bool
is_this key None = false
is_this key (Some other) = same_key other key

abbrev pub holds : Tables → List ℕ → UserKey → Bool
holds tables name key = is_this key (key_of name tables.keys)

-- ---- names of keys

-- how many of some tables stand before the first that hold a user with a key: all of them, where none do
abbrev pub before_first : List Tables → List ℕ → UserKey → ℕ
before_first [] name key = 0
before_first (tables ∷ more) name key = if holds tables name key then 0 else suc (before_first more name key)

-- a name with a number
abbrev pub with_number : List ℕ → ℕ → List ℕ
with_number name zero = name
with_number name (suc number) = name ++ 32 ∷ decimal (suc number)

-- the key name of a user who has this key in the tables of a number
abbrev pub named_by : List Tables → ℕ → List ℕ → Option UserKey → List ℕ
named_by tables number name None = name
named_by tables number name (Some key) = with_number name (before_first (take number tables) name key)

-- the key that a user has in the tables of a number, and its name
abbrev pub key_in : List Tables → ℕ → List ℕ → Option UserKey
key_in tables number name = key_of name (tables_at tables number).keys

abbrev pub key_name : List Tables → ℕ → List ℕ → List ℕ
key_name tables number name = named_by tables number name (key_in tables number name)

-- ---- of a setting

-- the key name of a user whom the authentication server knows while the tables of a number are in force, and none where
-- his key is made up
abbrev pub known_name : Setting → ℕ → List ℕ → Option (List ℕ)
known_name z number name =
    if is_some ((known_at z number).key name) then Some (key_name z.tables number name)
    else None

-- the key names, in the tables of a number, of the users in them who may speak for a user by them
abbrev pub speakers : Setting → ℕ → List ℕ → List (List ℕ)
speakers z number user = map (key_name z.tables number)
    (filter (λ host. (known_at z number).speaks host user) (map (λ line. line.0) (tables_at z.tables number).keys))

-- ---- what they tell

-- a user's name has no blank
abbrev pub HasNoBlank : List ℕ → Type 0
HasNoBlank name = All (λ b. b ≡ 32 → ⊥) name

-- of fewer than 2^64 tables two key names are the same exactly where the users, their keys and their passwords are
abbrev pub KeyNamesTellKeys : Type 0
KeyNamesTellKeys = (tables : List Tables) (e f : ℕ) (a b : List ℕ) (j k : UserKey) → length tables < 2 ^ 64
    → HasNoBlank a → HasNoBlank b
    → key_in tables e a ≡ Some j → key_in tables f b ≡ Some k
    → (key_name tables e a ≡ key_name tables f b) ↔ ((a ≡ b) × (j ≡ k))
