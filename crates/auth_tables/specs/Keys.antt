-- The keys of users, as the authentication server knows them. After keyfs(4) and authsrv(6) of the Plan 9 manual; the
-- form of a line, a tuple as factotum(4) has it, is this project's.
use Rattle.std.specs.Prelude.{ℕ, List, [], Bool, false, not, ◌&&◌, ◌||◌, is_none, codes, Option, Some, None, option_map, unwrap_or, if◌then◌else◌}
use Rattle.std.specs.List.{list_all, filter_map, slice_get}
use Rattle.std.specs.Map.{lookup}
use Rattle.std.specs.Str.{bytes_eq}
use Rattle.attr_tuples.specs.Cutting.{text_lines}
use Rattle.attr_tuples.specs.declared.attr.Attr.{Attr}
use Rattle.attr_tuples.specs.Attributes.{is_named, is_given}
use Rattle.attr_tuples.specs.Forms.{is_user, is_hex_key}
use Rattle.attr_tuples.specs.Giving.{gives, gives_once, is_any}
use Rattle.attr_tuples.specs.Matching.{value_of}
use Rattle.key_lists.specs.Digits.{digits_or_password}
use Rattle.auth_tables.specs.Lines.{counted, first_bad, tuple_in}

-- what the server knows of a user: the DES key, and the password where there is one
pub record UserKey : Type 0 where
  pub des : List ℕ
  pub password : Option (List ℕ)

-- a user and his key
abbrev pub KeyLine : Type 0
KeyLine = List ℕ × UserKey

-- the key of a user, if there is one
abbrev pub key_of : List ℕ → List KeyLine → Option UserKey
key_of user keys = lookup (bytes_eq user) keys

-- the user of the entry at a place, counted from 0 in the order of lines, if an entry has that place
abbrev pub user_at : ℕ → List KeyLine → Option (List ℕ)
user_at place keys = option_map (λ line. line.0) (slice_get keys place)

-- ---- a line

-- each attribute of the name is given a value that passes a test
abbrev pub gives_only : List ℕ → (List ℕ → Bool) → List Attr → Bool
gives_only name test attrs = list_all (λ a. not (is_named name a) || is_given test a.value) attrs

-- a tuple that is a user's key: it names one user, it gives a password or digits, and no digits but 14 hexadecimal ones
abbrev pub is_user_key : List Attr → Bool
is_user_key t = gives_once (codes "user") is_user t
    && (gives_only (codes "!hex") is_hex_key t && (gives (codes "!password") is_any t || gives (codes "!hex") is_any t))

-- the user and the key that such a tuple gives: the digits are the DES key where there are some, and else the password
-- stands for it
abbrev pub key_given : List Attr → KeyLine
key_given t = (
  unwrap_or (value_of (codes "user") t) [],
  record {
    des = digits_or_password (value_of (codes "!hex") t)
        (value_of (codes "!password") t);
    password = value_of (codes "!password") t;
  },
)

-- the user and the key that a tuple gives, if there is one and it is a user's key
abbrev pub key_said : Option (List Attr) → Option KeyLine
key_said None = None
key_said (Some t) = if is_user_key t then Some (key_given t) else None

-- the user and the key that a line gives, if it gives one
unfoldable pub key_in : List ℕ → Option KeyLine
key_in line = key_said (tuple_in line)

-- ---- a table

-- the keys that lines give, in order
abbrev pub keys_in : List (List ℕ) → List KeyLine
keys_in lines = filter_map key_in lines

-- whether a line fits behind others: it gives a key, of a user that has none yet
abbrev pub gives_new : Option KeyLine → List KeyLine → Bool
gives_new None keys = false
gives_new (Some line) keys = is_none (key_of line.0 keys)

abbrev pub fits_keys : List (List ℕ) → List ℕ → Bool
fits_keys before line = gives_new (key_in line) (keys_in before)

-- the first bad line of a table of keys
abbrev pub bad_key_line : List ℕ → Option ℕ
bad_key_line file = first_bad fits_keys (text_lines file)

-- the keys of a table without a bad line
abbrev pub table_keys : List ℕ → List KeyLine
table_keys file = keys_in (counted (text_lines file))
