-- What a reading of labels leaves of its source, and when it fails.
use Rattle.std.specs.Prelude.{ℕ, ◌≤◌, List, Bool, true, false, length, map, Option, Result, Ok, Err}
use Rattle.std.specs.Io.KnownBytes.{Consumes, IsAtEnd}
use Rattle.wire_streams.specs.declared.whole.WholeFault.TheVariants as whole
use Rattle.wire_streams.specs.Whole.{TakesBefore}
use Rattle.trace_labels.specs.declared.line.LabelLine.{LabelLine}
use Rattle.trace_labels.specs.declared.read.LabelsFault.{LabelsFault}
use Rattle.trace_labels.specs.declared.read.LabelsFault.TheVariants.{ReadFault, Flood, NoMemory}
use Rattle.trace_labels.specs.declared.read.TheConstants.{MOST_BYTES}
use Rattle.trace_labels.specs.Labels.{label_lines, AreUpTo}
use Rattle.trace_labels.specs.Said.{said}

-- this text was read, whole
pub record WasRead (before now : Option (List ℕ)) (text : List ℕ) : Type 0 where
  pub consumed : Consumes before now text
  pub whole : IsAtEnd now
  pub small : length text ≤ MOST_BYTES

-- these are the lines of a text that was read, up to the first bad one, whose number this is, if there is one
pub record ReadsLabels (before now : Option (List ℕ)) (lines : List LabelLine) (bad : Option ℕ) : Type 0 where
  pub text : List ℕ
  pub read : WasRead before now text
  pub are : AreUpTo (label_lines text) (map said lines) bad

-- a flood comes exactly where more than the limit was taken, a fault where a read failed before
abbrev pub FailsSo : LabelsFault → Option (List ℕ) → Option (List ℕ) → Type 0
FailsSo ReadFault before now = TakesBefore before now MOST_BYTES whole.Failed
FailsSo Flood before now = TakesBefore before now MOST_BYTES whole.Flood
FailsSo NoMemory before now = Unit {0}

abbrev pub reading_failed : {A : Type 0} → Result A LabelsFault → Bool
reading_failed (Ok labels) = false
reading_failed (Err ReadFault) = true
reading_failed (Err Flood) = false
reading_failed (Err NoMemory) = false

abbrev pub is_flood : {A : Type 0} → Result A LabelsFault → Bool
is_flood (Ok labels) = false
is_flood (Err ReadFault) = false
is_flood (Err Flood) = true
is_flood (Err NoMemory) = false
