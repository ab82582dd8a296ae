-- The bridge from bytes to trees: a clean legal history is a symbolic run, and each message that it gives is spelled
-- by its label.
use Rattle.std.specs.Prelude.{◌≡◌, ℕ, List, [], ◌∷◌, Option, Some, None, Ok}
use Rattle.symbolic_runs.specs.Trees.{Tree}
use Rattle.symbolic_runs.specs.Spellings.{Atoms, spelling}
use Rattle.wire_histories.specs.declared.step.Step.{Step}
use Rattle.symbolic_runs.specs.Runs.{Setting as Symbolic, IsSymbolicRun, given as labels_given}
use Rattle.symbolic_runs.specs.Statements.{KeepsSecrets}
use Rattle.wire_histories.specs.Histories.{History}
use Rattle.wire_histories.specs.Legal.{IsLegal, Setting}
use Rattle.clean_runs.specs.Labels.{Labelling, given}
use Rattle.clean_runs.specs.Runs.{events_of, run_of, setting_of}
use Rattle.clean_runs.specs.Clean.{AtEachPlace, IsClean}

-- bytes that are given have one label, which spells them
pub record IsSpelled (atoms : Atoms) (labels : List Tree) (b : List ℕ) : Type 0 where
  pub label : Tree
  pub one : labels ≡ label ∷ []
  pub spells : spelling atoms label ≡ Ok b

abbrev pub IsSpelledIf : Atoms → List Tree → Option (List ℕ) → Type 0
IsSpelledIf atoms labels None = Unit {0}
IsSpelledIf atoms labels (Some b) = IsSpelled atoms labels b

abbrev pub SpellsStep : Atoms → Symbolic → Labelling → History → Step → Type 0
SpellsStep atoms s l past step = IsSpelledIf atoms (labels_given s (events_of s l past step)) (given step)

pub record IsBridged (history : History) (z : Setting) (atoms : Atoms) (l : Labelling) : Type 0 where
  pub run : IsSymbolicRun (setting_of z l history) (run_of z l history)
  pub spelled : AtEachPlace history (SpellsStep atoms (setting_of z l history) l)

abbrev pub OfEveryCleanHistory : (History → Setting → Atoms → Labelling → Type 0) → Type 0
OfEveryCleanHistory P = (history : History) (z : Setting) (atoms : Atoms) (l : Labelling) → IsLegal history z
    → IsClean history z atoms l → P history z atoms l

-- and what follows: no uncompromised secret derives from what is known, at any place
abbrev pub IsSecret : History → Setting → Atoms → Labelling → Type 0
IsSecret history z atoms l = KeepsSecrets (setting_of z l history) (run_of z l history)
