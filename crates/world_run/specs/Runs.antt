-- What a run of a script has recorded and written when it ends. Content is optional: the words on what was written
-- hold where it is told.
use Rattle.std.specs.Prelude.{◌≡◌, ℕ, List, [], ◌++◌, Bool, true, false, Option, Some, None}
use Rattle.wire_streams.specs.Streams.{Gains}
use Rattle.wire_histories.specs.declared.step.Step.{Step}
use Rattle.world_history.specs.Scripts.{Played, play}
use Rattle.world_history.specs.Worlds.{steps}
use Rattle.world_history.specs.declared.record.Cut.{Cut}
use Rattle.world_history.specs.declared.record.Cut.TheVariants as cut
use Rattle.world_history.specs.Writing.{WritesBy, lines_of}
use Rattle.world_run.specs.declared.play.WorldEnd.{WorldEnd}
use Rattle.world_run.specs.declared.play.WorldEnd.TheVariants.{Done, Bad, WriteFault, NoMemory}

-- behind what was recorded, all steps of these lines were recorded and written
pub record RunsAll (played : Played) (old new : List Step) (before now : Option (List ℕ)) : Type 0 where
  pub more : List Step
  pub recorded : new ≡ old ++ more
  pub all : new ≡ steps played.acts
  pub written : Gains before now (lines_of more)

-- the first of them were recorded, and of their lines a front was written where a write failed, and all where memory
-- ran out
pub record RunsPart (cut : Cut) (played : Played) (old new : List Step) (before now : Option (List ℕ)) : Type 0 where
  pub more : List Step
  pub recorded : new ≡ old ++ more
  pub rest : List Step
  pub first : new ++ rest ≡ steps played.acts
  pub written : WritesBy cut before now (lines_of more)

-- a run that ended so behind what was recorded, where the lines that were left come to this
abbrev pub RunsFrom : WorldEnd → Played → List Step → List Step → Option (List ℕ) → Option (List ℕ) → Type 0
RunsFrom Done played old new before now = (played.refused ≡ None) × RunsAll played old new before now
RunsFrom (Bad line cause) played old new before now =
    (played.refused ≡ Some (line, cause)) × RunsAll played old new before now
RunsFrom WriteFault played old new before now = RunsPart cut.WriteFault played old new before now
RunsFrom NoMemory played old new before now = RunsPart cut.NoMemory played old new before now

-- a run of a script: its record is that of the lines up to the first that is refused, or a front of that
abbrev pub RunsSo : WorldEnd → List ℕ → List Step → Option (List ℕ) → Option (List ℕ) → Type 0
RunsSo end script recorded before now = RunsFrom end (play script) [] recorded before now

-- a write failed
abbrev pub is_fault : WorldEnd → Bool
is_fault Done = false
is_fault (Bad line cause) = false
is_fault WriteFault = true
is_fault NoMemory = false
