-- What a run of a script knows, at each of its lines, of the server whose domain and whose newest tables were read
-- ahead: behind the acts so far, and before the lines that are left.
use Rattle.std.specs.Prelude.{◌≡◌, ℕ, ◌+◌, ◌<◌, ◌^◌, List, [], ◌∷◌, ◌++◌, Bool, true, false, ◌||◌, length, Option, Some, None, Ok}
use Rattle.auth_tables.specs.Lines.{first_bad}
use Rattle.auth_tables.specs.Keys.{fits_keys}
use Rattle.auth_tables.specs.Speaks.{fits_speaks}
use Rattle.auth_server.specs.Standing.{knowledge}
use Rattle.world_scripts.specs.Lines.{Dom, AsKey, AsSpeak, Reload, AsGive}
use Rattle.world_scripts.specs.Pieces.{Piece}
use Rattle.world_scripts.specs.Reading.{line_of}
use Rattle.world_scripts.specs.Scripts.{Numbered, script_lines}
use Rattle.world_history.specs.Acts.{Act, Domain, KeyLine, SpeakLine, Reloaded, domain, key_lines, speak_lines, was_asked, were_used}
use Rattle.world_history.specs.Scripts.{is_unfit, judged}
use Rattle.world_history.specs.Worlds.{known}
use Rattle.world_history.specs.declared.tables.Tables.{Tables}
use Rattle.world_history.specs.Told.{dom_behind, ends_domain, told, told_keys, told_speaks}
use Rattle.world_history.specs.Servers.{GivesKeys, GivesSpeaks, IsToldAgain, IsToldBy, is_next}

-- no line of a table was bad so far, and its first bad line is that of these and of those that are left
pub record IsGood (fits : List (List ℕ) → List ℕ → Bool) (lines left : List (List ℕ)) (bad : Option ℕ) : Type 0 where
  pub good : first_bad fits lines ≡ None
  pub is_first : bad ≡ first_bad fits (lines ++ left)
  pub few : length (lines ++ left) < 2 ^ 32

-- the newest tables weren't used yet: they are what the acts and the lines that are left tell
pub record AreTelling (left : List Numbered) (acts : List Act) (tables : Tables) : Type 0 where
  pub good_keys : IsGood fits_keys (key_lines acts) (told_keys left) tables.bad_key
  pub good_speaks : IsGood fits_speaks (speak_lines acts) (told_speaks left) tables.bad_speak
  pub keys : GivesKeys tables.bad_key (key_lines acts ++ told_keys left) tables.core.keys
  pub speaks : GivesSpeaks tables.bad_speak (speak_lines acts ++ told_speaks left) tables.core.speaks

-- what is known of the server between acts and the lines that are left: until it was asked they tell its domain, and
-- until its tables were used they tell these; since then it knows what the acts told
pub record Tells (left : List Numbered) (acts : List Act) (tables : Tables) : Type 0 where
  pub domain_before : was_asked acts ≡ false → tables.core.dom ≡ dom_behind (domain acts) (told ends_domain left)
  pub domain_since : was_asked acts ≡ true → tables.core.dom ≡ domain acts
  pub before : were_used acts ≡ false → AreTelling left acts tables
  pub since : were_used acts ≡ true → known acts ≡ knowledge tables.core

-- ---- laws

-- it holds at the first line
abbrev pub TellsFirst : Type 0
TellsFirst = (script : List ℕ) (tables : Tables) → IsToldBy (script_lines script) tables
    → Tells (script_lines script) [] tables

-- an act by which the tables are read again
abbrev pub reads_again : Act → Bool
reads_again Reloaded = true
reads_again act = false

-- and behind each line that is carried out, but for those
abbrev pub TellsOn : Type 0
TellsOn = (line : Numbered) (left : List Numbered) (acts : List Act) (act : Act) (tables : Tables)
    → Tells (line ∷ left) acts tables → reads_again act ≡ false → judged acts (line_of line.text) ≡ Ok act
    → Tells left (act ∷ acts) tables

-- behind that one it holds of the server whose tables were read of the lines that are left
abbrev pub TellsAgain : Type 0
TellsAgain = (line : Numbered) (left : List Numbered) (acts : List Act) (old new : Tables)
    → Tells (line ∷ left) acts old → line_of line.text ≡ Some Reload → IsToldAgain left old new
    → Tells left (Reloaded ∷ acts) new

-- a domain is refused where the server was asked, and a line of a table where this was used, and where it is the first
-- bad one
abbrev pub DomTold : Type 0
DomTold = (line : Numbered) (acts : List Act) (dom : List ℕ)
    → line_of line.text ≡ Some (Dom dom) → is_unfit acts (Domain dom) ≡ was_asked acts

abbrev pub KeyTold : Type 0
KeyTold = (line : Numbered) (left : List Numbered) (acts : List Act) (tuple : List ℕ) (tables : Tables)
    → Tells (line ∷ left) acts tables → line_of line.text ≡ Some (AsKey tuple)
    → is_unfit acts (KeyLine tuple) ≡ were_used acts || is_next tables.bad_key (length (key_lines acts))

abbrev pub SpeakTold : Type 0
SpeakTold = (line : Numbered) (left : List Numbered) (acts : List Act) (tuple : List ℕ) (tables : Tables)
    → Tells (line ∷ left) acts tables → line_of line.text ≡ Some (AsSpeak tuple)
    → is_unfit acts (SpeakLine tuple) ≡ were_used acts || is_next tables.bad_speak (length (speak_lines acts))

-- so many lines of a table are counted in 32 bits
abbrev pub KeysFew : Type 0
KeysFew = (line : Numbered) (left : List Numbered) (acts : List Act) (tuple : List ℕ) (tables : Tables)
    → Tells (line ∷ left) acts tables → line_of line.text ≡ Some (AsKey tuple)
    → were_used acts ≡ false → length (key_lines acts) + 1 < 2 ^ 32

abbrev pub SpeaksFew : Type 0
SpeaksFew = (line : Numbered) (left : List Numbered) (acts : List Act) (tuple : List ℕ) (tables : Tables)
    → Tells (line ∷ left) acts tables → line_of line.text ≡ Some (AsSpeak tuple)
    → were_used acts ≡ false → length (speak_lines acts) + 1 < 2 ^ 32

-- at a request the server knows what the acts told, whether it is the first of its tables or not
abbrev pub AskedKnown : Type 0
AskedKnown = (line : Numbered) (left : List Numbered) (acts : List Act) (session : List ℕ) (request : List Piece)
    (first second third : List ℕ) (tables : Tables)
    → Tells (line ∷ left) acts tables → line_of line.text ≡ Some (AsGive session request first second third)
    → known acts ≡ knowledge tables.core
