-- Words for the steps of reading a table. No public contract cites them.
use Rattle.std.specs.Prelude.{◌≡◌, ℕ, ◌+◌, ◌≤◌, All, List, [], ◌∷◌, ◌++◌, Bool, Option, Some, None, option_map, length, codes, if◌then◌else◌}
use Rattle.std.specs.Borrow.{Bor}
use Rattle.std.specs.Map.{lookup}
use Rattle.std.specs.Str.{bytes_eq}
use Rattle.attr_tuples.specs.Cutting.{lines_left}
use Rattle.auth_tables.specs.Lines.{counted, first_bad_behind}
use Rattle.hex.specs.Hex.{encode_lower}
use Rattle.attr_tuples.specs.Words.{value_text}
use Rattle.auth_tables.specs.Keys.{KeyLine, UserKey, keys_in}
use Rattle.auth_tables.specs.Printing.{AreApart, IsKeyLine, is_of_password}
use Rattle.auth_tables.specs.Speaks.{SpeakLine, names_in, names_of, speaks_in}

-- the place of a user's line, counted from 0, if he has one
abbrev pub place_of : List ℕ → List KeyLine → Option ℕ
place_of user [] = None
place_of user (line ∷ lines) =
    if bytes_eq user line.0 then Some 0
    else option_map (λ place. place + 1) (place_of user lines)

-- a map finds the place of each user's line
abbrev pub FindPlaces : List KeyLine → List (List ℕ × ℕ) → Type 0
FindPlaces lines places = (user : List ℕ) → lookup (bytes_eq user) places ≡ place_of user lines

-- a table of keys is what lines give, in order; its lines can be given, no user has two, and each stands for one that
-- was read
pub record Keeps (lines : List (List ℕ)) (table : List KeyLine) : Type 0 where
  pub same : table ≡ keys_in lines
  pub good : All IsKeyLine table
  pub apart : AreApart table
  pub few : length table ≤ length lines

-- a table of speakers tells of each host what lines give it
abbrev pub TellsSpeaks : List (List ℕ) → List SpeakLine → Type 0
TellsSpeaks lines table = (host : List ℕ) → names_of host table ≡ names_in (speaks_in lines) host

-- ---- a key as it is written behind its user

abbrev pub digits_text : UserKey → List ℕ
digits_text key =
    if is_of_password key.des key.password then []
    else codes " !hex=" ++ value_text (encode_lower key.des)

abbrev pub password_text : Option (List ℕ) → List ℕ
password_text None = []
password_text (Some password) = codes " !password=" ++ value_text password

-- ---- a table read line by line

-- these lines were read, and so many of them count
pub record IsBehind (before : List (List ℕ)) (number count : ℕ) : Type 0 where
  pub number_is : number ≡ length before
  pub count_is : count ≡ length (counted before)

-- the lines of a file are those that were read and those that are left; none of the first is bad, so that the first bad
-- line is to be found in what is left
pub record HasRead (fits : List (List ℕ) → List ℕ → Bool) (lines : List (List ℕ)) (left : Option (Bor (List ℕ)))
    (number count : ℕ) (before : List (List ℕ)) : Type 0 where
  pub whole : lines ≡ before ++ lines_left left
  pub behind : IsBehind before number count
  pub bad : first_bad_behind fits before (lines_left left) ≡ first_bad_behind fits [] lines
