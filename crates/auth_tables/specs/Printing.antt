-- How a table of keys is written: a line for each user, in the form that is read. After keyfs(4) of the Plan 9
-- manual; the form of a line, a tuple as factotum(4) has it, is this project's.
use Rattle.std.specs.Prelude.{◌≡◌, ◌≢◌, ℕ, ◌≤◌, List, [], ◌∷◌, ◌++◌, Bool, true, false, ◌&&◌, nat_le, All, AllPairs, length, codes, Option, None, Some, IfSome, if◌then◌else◌}
use Rattle.std.specs.List.{flat_map, list_all}
use Rattle.std.specs.Map.{set_value}
use Rattle.std.specs.Str.{bytes_eq}
use Rattle.hex.specs.Hex.{IsBytes, encode_lower}
use Rattle.wire_base.specs.Texts.{is_text}
use Rattle.attr_tuples.specs.declared.attr.Attr.{Attr}
use Rattle.attr_tuples.specs.declared.attr.Value.TheVariants.{Is}
use Rattle.attr_tuples.specs.Attributes.{is_value}
use Rattle.attr_tuples.specs.Forms.{is_user}
use Rattle.attr_tuples.specs.Printing.{printed_text}
use Rattle.sealing.specs.Passwords.{password_key}
use Rattle.auth_tables.specs.Lines.{most_lines}
use Rattle.auth_tables.specs.Keys.{KeyLine, UserKey}

-- a name that is given a value
abbrev pub given : List ℕ → List ℕ → Attr
given name text = record { name = name; value = Is text }

-- whether a key is the one that a password stands for
abbrev pub is_of_password : List ℕ → Option (List ℕ) → Bool
is_of_password des None = false
is_of_password des (Some password) = bytes_eq des (password_key password)

-- the digits of a key, which are written where no password stands for it
abbrev pub digits_given : UserKey → List Attr
digits_given key = if is_of_password key.des key.password then [] else given (codes "!hex") (encode_lower key.des) ∷ []

-- the password, where there is one
abbrev pub password_given : Option (List ℕ) → List Attr
password_given None = []
password_given (Some password) = given (codes "!password") password ∷ []

-- the tuple that a user's key is written as
abbrev pub key_attrs : KeyLine → List Attr
key_attrs line = given (codes "user") line.0 ∷ (digits_given line.1 ++ password_given line.1.password)

-- and its line
unfoldable pub key_line : KeyLine → List ℕ
key_line line = printed_text (key_attrs line) ++ 10 ∷ []

-- a table as it is written
abbrev pub table_text : List KeyLine → List ℕ
table_text keys = flat_map key_line keys

-- ---- a password that is changed

-- whether bytes may be a new password: text of 8 to 27 bytes from the blank on
abbrev pub is_new_password : List ℕ → Bool
is_new_password password =
    nat_le 8 (length password) && (nat_le (length password) 27 && (list_all (nat_le 32) password && is_text password))

-- what the server knows of a user whose password this is
abbrev pub key_of_password : List ℕ → UserKey
key_of_password password = record { des = password_key password; password = Some password }

-- the table in which a user, where he is there, has this password and the key that it stands for
abbrev pub with_password : List ℕ → List ℕ → List KeyLine → List KeyLine
with_password user password keys = set_value (bytes_eq user) keys (key_of_password password)

-- ---- which tables there are

-- a user and a key that a line can give
pub record IsKeyLine (line : KeyLine) : Type 0 where
  pub user : is_user line.0 ≡ true
  pub user_text : is_text line.0 ≡ true
  pub seven : length line.1.des ≡ 7
  pub bytes : IsBytes line.1.des
  pub password : IfSome line.1.password (λ password. is_value (Is password) ≡ true)

-- each is of another user than those behind it
abbrev pub AreApart : List KeyLine → Type 0
AreApart keys = AllPairs (λ (line : KeyLine) (other : KeyLine). line.0 ≢ other.0) keys

-- each line can be given, no user has two, and they aren't too many
pub record IsTable (keys : List KeyLine) : Type 0 where
  pub lines : All IsKeyLine keys
  pub apart : AreApart keys
  pub few : length keys ≤ most_lines
