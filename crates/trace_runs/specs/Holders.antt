-- Whether lines tell the holder of each conversation that keeps a key, and a reading spells this key as that of its
-- holder.
use Rattle.std.specs.Prelude.{◌≡◌, ℕ, List, [], Bool, true, false, Option, Some, None, is_some, unwrap_or}
use Rattle.auth_tables.specs.Keys.{UserKey, key_of}
use Rattle.symbolic_runs.specs.Moves.{Role}
use Rattle.symbolic_runs.specs.Spellings.{Atoms}
use Rattle.trace_labels.specs.Lines.{Line}
use Rattle.wire_histories.specs.declared.step.Step.{Step}
use Rattle.wire_histories.specs.declared.step.Step.TheVariants.{Start}
use Rattle.wire_histories.specs.Histories.{History}
use Rattle.wire_histories.specs.Legal.{Setting}
use Rattle.wire_histories.specs.Noted.{Noted, kept_at}
use Rattle.clean_runs.specs.Clean.{AtEachPlace, ReadsHolder}
use Rattle.clean_runs.specs.Labels.{Labelling}
use Rattle.clean_runs.specs.Runs.{role_by}
use Rattle.trace_runs.specs.Readings.{holder_in}
use Rattle.trace_runs.specs.Tables.{reads_held}

-- the holders of a labelling are those that lines tell; where none tells one he has no name
abbrev pub TellsHolders : List Line → Labelling → Type 0
TellsHolders lines l = (conv : List ℕ) → l.holder conv ≡ unwrap_or (holder_in conv lines) []

-- a conversation that keeps a key starts only where a line tells its holder: no holder that is needed is missing
abbrev pub HasHolder : List Line → Setting → History → Step → Type 0
HasHolder lines z past (Start conv protocol role random) =
    is_some (kept_at z conv) ≡ true → is_some (holder_in conv lines) ≡ true
HasHolder lines z past step = Unit {0}

-- each key is read as that of its holder, and no holder is missing
pub record ReadsHolders (atoms : Atoms) (lines : List Line) (z : Setting) (l : Labelling)
    (history : History) : Type 0 where
  pub read : AtEachPlace history (ReadsHolder atoms z l)
  pub told : AtEachPlace history (HasHolder lines z)

-- ---- of the code alone

-- the key that was noted of a conversation, with the holder that a line tells
abbrev pub reads_noted : Atoms → Role → Option (List ℕ) → Option UserKey → Bool
reads_noted atoms role holder None = true
reads_noted atoms role None (Some key) = false
reads_noted atoms role (Some holder) (Some key) = reads_held atoms role holder (Some (key.des, key.password))

abbrev pub reads_start : Atoms → List Line → Noted → Step → Bool
reads_start atoms lines n (Start conv protocol role random) =
    reads_noted atoms (role_by protocol role) (holder_in conv lines) (key_of conv n.keys)
reads_start atoms lines n step = true
