-- What the lines of a script tell of its authentication server. Those before the first request to it tell its domain;
-- those before the first request to it or the next reading of its tables tell these. What has no line's form ends both.
use Rattle.std.specs.Prelude.{ℕ, List, [], ◌∷◌, ◌++◌, Bool, true, false, Option, Some, None, codes, if◌then◌else◌}
use Rattle.std.specs.List.{filter_map, flat_map}
use Rattle.world_scripts.specs.Lines.{ScriptLine, Dom, AsKey, AsSpeak, Reload, AsGive}
use Rattle.world_scripts.specs.Reading.{line_of}
use Rattle.world_scripts.specs.Scripts.{Numbered}

-- a line from which on no domain is told
abbrev pub ends_domain : ScriptLine → Bool
ends_domain (AsGive session request first second third) = true
ends_domain line = false

-- one from which on no line of the tables is
abbrev pub ends_tables : ScriptLine → Bool
ends_tables (AsGive session request first second third) = true
ends_tables Reload = true
ends_tables line = false

-- a line in front of others that tell
abbrev pub told_on : (ScriptLine → Bool) → Option ScriptLine → List ScriptLine → List ScriptLine
told_on ends None more = []
told_on ends (Some line) more = if ends line then [] else line ∷ more

-- the lines that tell
abbrev pub told : (ScriptLine → Bool) → List Numbered → List ScriptLine
told ends [] = []
told ends (line ∷ more) = told_on ends (line_of line.text) (told ends more)

-- the line of the table of keys that a line is, and the one of who speaks for whom
abbrev pub key_line : ScriptLine → Option (List ℕ)
key_line (AsKey tuple) = Some tuple
key_line line = None

abbrev pub speak_line : ScriptLine → Option (List ℕ)
speak_line (AsSpeak tuple) = Some tuple
speak_line line = None

-- the lines of both tables, in order
abbrev pub told_keys : List Numbered → List (List ℕ)
told_keys lines = filter_map key_line (told ends_tables lines)

abbrev pub told_speaks : List Numbered → List (List ℕ)
told_speaks lines = filter_map speak_line (told ends_tables lines)

-- the domain behind lines: the last that is told, and else this
abbrev pub dom_behind : List ℕ → List ScriptLine → List ℕ
dom_behind dom [] = dom
dom_behind dom (Dom other ∷ more) = dom_behind other more
dom_behind dom (line ∷ more) = dom_behind dom more

abbrev pub told_dom : List Numbered → List ℕ
told_dom lines = dom_behind (codes "x") (told ends_domain lines)

-- ---- for the code, which gathers each table as a text

-- lines as a text, each with a newline behind it
abbrev pub lines_text : List (List ℕ) → List ℕ
lines_text lines = flat_map (λ line. line ++ 10 ∷ []) lines

-- what was gathered: the texts of both tables
pub record Gathered : Type 0 where
  pub keys : List ℕ
  pub speaks : List ℕ

-- nothing yet
abbrev pub nothing : Gathered
nothing = record { keys = []; speaks = [] }

-- what was gathered behind more lines
abbrev pub gathered_behind : Gathered → List ScriptLine → Gathered
gathered_behind g lines = record {
  keys = g.keys ++ lines_text (filter_map key_line lines);
  speaks = g.speaks ++ lines_text (filter_map speak_line lines);
}
