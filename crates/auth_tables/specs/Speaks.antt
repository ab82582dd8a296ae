-- Who speaks for whom: on whose behalf the user of a host may ask. After authsrv(6) and the entries `hostid`, `uid` of
-- ndb(6)'s database of the authentication server (/lib/ndb/auth) in the Plan 9 manual; that a denial goes before any
-- grant, and the form of a line, a tuple as factotum(4) has it, are this project's.
use Rattle.std.specs.Prelude.{◌≡◌, ◌⊎◌, ℕ, List, [], ◌∷◌, Bool, not, ◌&&◌, ◌||◌, codes, Option, None, Some, is_some, option_map, unwrap_or, if◌then◌else◌}
use Rattle.std.specs.List.{Contains, list_any, flat_map, filter_map}
use Rattle.std.specs.Map.{lookup}
use Rattle.std.specs.Str.{bytes_eq}
use Rattle.attr_tuples.specs.Cutting.{text_lines}
use Rattle.attr_tuples.specs.declared.attr.Attr.{Attr}
use Rattle.attr_tuples.specs.Matching.{texts_of, value_of}
use Rattle.auth_tables.specs.Lines.{counted, first_bad, tuple_in}

-- a host, and the names that a line gives it: `u` grants the user u, `*` every user, and `!u` denies the user u
abbrev pub SpeakLine : Type 0
SpeakLine = List ℕ × List (List ℕ)

-- the names that lines give a host
abbrev pub names_in : List SpeakLine → List ℕ → List (List ℕ)
names_in lines host = flat_map (λ line. if bytes_eq host line.0 then line.1 else []) lines

-- whether a name is among others
abbrev pub has : List (List ℕ) → List ℕ → Bool
has names name = list_any (λ other. bytes_eq other name) names

-- whether names grant a user, and whether they deny him
abbrev pub grants : List (List ℕ) → List ℕ → Bool
grants names user = has names user || has names (codes "*")

abbrev pub denies : List (List ℕ) → List ℕ → Bool
denies names user = has names (33 ∷ user)

-- whether a host, which is given some names, may speak for a user: the host is the user, or its names grant him and
-- none of them denies him
unfoldable pub may_speak : List (List ℕ) → List ℕ → List ℕ → Bool
may_speak names host user = bytes_eq host user || grants names user && not (denies names user)

-- the names that a table, which has each host once, gives a host
abbrev pub names_of : List ℕ → List SpeakLine → List (List ℕ)
names_of host table = unwrap_or (lookup (bytes_eq host) table) []

-- ---- a line

-- the host and the names that a tuple gives, if there is one and it names a host: the first `hostid` with a value, and
-- each `uid` with a value
abbrev pub speak_said : Option (List Attr) → Option SpeakLine
speak_said None = None
speak_said (Some t) = option_map (λ host. (host, texts_of (codes "uid") t)) (value_of (codes "hostid") t)

-- the host and the names that a line gives, if it gives some
unfoldable pub speak_in : List ℕ → Option SpeakLine
speak_in line = speak_said (tuple_in line)

-- ---- a table

-- what lines say, in order
abbrev pub speaks_in : List (List ℕ) → List SpeakLine
speaks_in lines = filter_map speak_in lines

-- a line fits behind others where it names a host
abbrev pub fits_speaks : List (List ℕ) → List ℕ → Bool
fits_speaks before line = is_some (speak_in line)

-- the first bad line of such a table
abbrev pub bad_speak_line : List ℕ → Option ℕ
bad_speak_line file = first_bad fits_speaks (text_lines file)

-- what a table without a bad line says
abbrev pub table_speaks : List ℕ → List SpeakLine
table_speaks file = speaks_in (counted (text_lines file))

-- ---- the same in other words

-- a line of a host gives it a name
pub record Gives (lines : List SpeakLine) (host name : List ℕ) : Type 0 where
  pub line : SpeakLine
  pub stands : Contains lines line
  pub of_host : line.0 ≡ host
  pub given : Contains line.1 name

-- the host is the user, or a line of the host gives it the user or `*`, and none gives it `!` and the user
abbrev pub Speaks : List SpeakLine → List ℕ → List ℕ → Type 0
Speaks lines host user =
    (host ≡ user) ⊎ ((Gives lines host user ⊎ Gives lines host (codes "*")) × (Gives lines host (33 ∷ user) → ⊥))
