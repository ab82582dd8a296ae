-- A text of labels: its lines, each of one of the forms, and none of them saying again what an earlier one says: the
-- holder of a conversation, the reading of an atom, the label of a place or its derivation. A newline ends a line; the
-- last may lack it. The form is this project's.
use Rattle.std.specs.Prelude.{◌≡◌, ◌⊎◌, ℕ, ◌+◌, List, [], ◌∷◌, ◌++◌, Bool, true, false, ◌==◌, length, Option, Some, None}
use Rattle.std.specs.List.{list_any}
use Rattle.std.specs.Str.{bytes_eq}
use Rattle.attr_tuples.specs.Cutting.{text_lines}
use Rattle.symbolic_runs.specs.Trees.{same_tree}
use Rattle.trace_labels.specs.Lines.{Line, holder, reading, label, proof, IsLine}

-- without an empty last line
abbrev pub unless_empty : List ℕ → List (List ℕ)
unless_empty [] = []
unless_empty (b ∷ line) = (b ∷ line) ∷ []

abbrev pub whole_lines : List (List ℕ) → List (List ℕ)
whole_lines [] = []
whole_lines (line ∷ []) = unless_empty line
whole_lines (line ∷ next ∷ lines) = line ∷ whole_lines (next ∷ lines)

-- the lines of a text
abbrev pub label_lines : List ℕ → List (List ℕ)
label_lines text = whole_lines (text_lines text)

-- a line speaks of what another one speaks of
abbrev pub repeats : Line → Line → Bool
repeats (holder conv name) (holder other b) = bytes_eq conv other
repeats (reading atom bytes) (reading other b) = same_tree atom other
repeats (label place t) (label other u) = place == other
repeats (proof place steps) (proof other b) = place == other
repeats line other = false

-- a line repeats one of those before it
abbrev pub is_repeated : Line → List Line → Bool
is_repeated line before = list_any (repeats line) before

-- these texts, behind some lines, are these lines
abbrev pub AreLinesBehind : List Line → List (List ℕ) → List Line → Type 0
AreLinesBehind before [] [] = Unit {0}
AreLinesBehind before (text ∷ texts) (line ∷ lines) =
    IsLine line text × (is_repeated line before ≡ false) × AreLinesBehind (before ++ line ∷ []) texts lines
AreLinesBehind before texts lines = ⊥

abbrev pub AreLines : List (List ℕ) → List Line → Type 0
AreLines texts lines = AreLinesBehind [] texts lines

-- a text is bad behind some lines: it is no line, or one that repeats one of them
abbrev pub IsBad : List Line → List ℕ → Type 0
IsBad before text = ((line : Line) → IsLine line text → ⊥)
    ⊎ ((line : Line) × IsLine line text × (is_repeated line before ≡ true))

-- the line of this number, from 1 on, is the first that is bad, and these are the lines before it
pub record IsFirstBad (texts : List (List ℕ)) (lines : List Line) (number : ℕ) : Type 0 where
  pub before : List (List ℕ)
  pub bad : List ℕ
  pub behind : List (List ℕ)
  pub whole : texts ≡ before ++ bad ∷ behind
  pub counted : number ≡ length before + 1
  pub good : AreLines before lines
  pub is_bad : IsBad lines bad

-- these are the lines of some texts up to the first that is bad, whose number this is, if there is one
abbrev pub AreUpTo : List (List ℕ) → List Line → Option ℕ → Type 0
AreUpTo texts lines None = AreLines texts lines
AreUpTo texts lines (Some number) = IsFirstBad texts lines number
