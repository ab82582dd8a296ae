-- The server that the lines of a script tell of.
use Rattle.std.specs.Prelude.{◌≡◌, ℕ, ◌+◌, ◌<◌, ◌^◌, List, [], Bool, false, ◌==◌, length, Option, Some, None}
use Rattle.auth_tables.specs.Lines.{counted, first_bad}
use Rattle.auth_tables.specs.Keys.{KeyLine, fits_keys, key_of, keys_in}
use Rattle.auth_tables.specs.Speaks.{SpeakLine, fits_speaks, names_in, names_of, speaks_in}
use Rattle.world_scripts.specs.Scripts.{Numbered}
use Rattle.world_history.specs.declared.tables.Tables.{Tables}
use Rattle.world_history.specs.Told.{told_dom, told_keys, told_speaks}

-- a table of keys gives what these lines do where none of them is bad, and nothing where this is the number of a bad
-- one
abbrev pub GivesKeys : Option ℕ → List (List ℕ) → List KeyLine → Type 0
GivesKeys None lines table = (user : List ℕ) → key_of user table ≡ key_of user (keys_in (counted lines))
GivesKeys (Some bad) lines table = (user : List ℕ) → key_of user table ≡ None

-- the same of who speaks for whom
abbrev pub GivesSpeaks : Option ℕ → List (List ℕ) → List SpeakLine → Type 0
GivesSpeaks None lines table = (host : List ℕ) → names_of host table ≡ names_in (speaks_in (counted lines)) host
GivesSpeaks (Some bad) lines table = (host : List ℕ) → names_of host table ≡ []

-- both tables as lines tell of them, and the numbers of the first bad line of each
pub record AreToldBy (lines : List Numbered) (bad_key bad_speak : Option ℕ) (keys : List KeyLine)
    (speaks : List SpeakLine) : Type 0 where
  pub first_key : bad_key ≡ first_bad fits_keys (told_keys lines)
  pub first_speak : bad_speak ≡ first_bad fits_speaks (told_speaks lines)
  pub give_keys : GivesKeys bad_key (told_keys lines) keys
  pub give_speaks : GivesSpeaks bad_speak (told_speaks lines) speaks
  pub few_keys : length (told_keys lines) < 2 ^ 32
  pub few_speaks : length (told_speaks lines) < 2 ^ 32

-- the tables of a server are such
abbrev pub HasTables : List Numbered → Tables → Type 0
HasTables lines tables = AreToldBy lines tables.bad_key tables.bad_speak tables.core.keys tables.core.speaks

-- the server that lines tell of
pub record IsToldBy (lines : List Numbered) (tables : Tables) : Type 0 where
  pub dom : tables.core.dom ≡ told_dom lines
  pub has : HasTables lines tables

-- its tables were read again, of which lines tell, and its domain stays
pub record IsToldAgain (lines : List Numbered) (old new : Tables) : Type 0 where
  pub dom : new.core.dom ≡ old.core.dom
  pub has : HasTables lines new

-- the line behind so many of a table is its first bad one
abbrev pub is_next : Option ℕ → ℕ → Bool
is_next None count = false
is_next (Some bad) count = bad == count + 1
