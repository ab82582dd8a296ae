-- What carrying out lines one after the other comes to. This serves proofs alone. Content is optional: the words on
-- what was written hold where it is told.
use Rattle.std.specs.Prelude.{◌≡◌, ℕ, List, ◌∷◌, ◌++◌, Bool, false, Option, Some, None, Ok}
use Rattle.wire_streams.specs.Streams.{Gains}
use Rattle.wire_histories.specs.declared.step.Step.{Step}
use Rattle.world_scripts.specs.Reading.{line_of}
use Rattle.world_scripts.specs.Scripts.{Numbered}
use Rattle.world_history.specs.Acts.{Act}
use Rattle.world_history.specs.Scripts.{Played, judged, plays}
use Rattle.world_history.specs.Writing.{lines_of}
use Rattle.world_run.specs.declared.play.WorldEnd.{WorldEnd}
use Rattle.world_run.specs.declared.run.Run.{Run}
use Rattle.world_run.specs.Runs.{RunsFrom, is_fault}
use Rattle.world_run.specs.Standing.{Stands}

-- a line was carried out, and all of its steps were recorded and written
pub record Goes (line : Numbered) (left : List Numbered) (acts : List Act) (new : Run) (old : List Step)
    (before now : Option (List ℕ)) : Type 0 where
  pub act : Act
  pub fits : judged acts (line_of line.text) ≡ Ok act
  pub stands : Stands left (act ∷ acts) new
  pub more : List Step
  pub recorded : new.recorded ≡ old ++ more
  pub written : Gains before now (lines_of more)

-- a run that ended with what some lines come to
abbrev pub EndsBy : WorldEnd → Played → List Step → List Step → Option (List ℕ) → Option (List ℕ) → Type 0
EndsBy end played old new before now = RunsFrom end played old new before now

abbrev pub PlaysOne : Numbered → List Numbered → Run → Option WorldEnd → Run → Option (List ℕ) → Option (List ℕ)
    → Type 0
PlaysOne line left old None new before now = (acts : List Act) → Stands (line ∷ left) acts old
    → Goes line left acts new old.recorded before now
PlaysOne line left old (Some end) new before now = (acts : List Act) → Stands (line ∷ left) acts old
    → EndsBy end (plays acts (line ∷ left)) old.recorded new.recorded before now

abbrev pub PlaysAll : List Numbered → Run → WorldEnd → Run → Option (List ℕ) → Option (List ℕ) → Type 0
PlaysAll lines old end new before now =
    (acts : List Act) → Stands lines acts old → EndsBy end (plays acts lines) old.recorded new.recorded before now

-- a write failed
abbrev pub write_failed : Option WorldEnd → Bool
write_failed None = false
write_failed (Some end) = is_fault end
