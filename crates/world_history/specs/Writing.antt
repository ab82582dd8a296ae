-- What recording some steps leaves where it is cut off. Content is optional: the words on what was written hold where
-- it is told.
use Rattle.std.specs.Prelude.{◌≡◌, ℕ, List, ◌++◌, Bool, true, false, Option, Result, Ok, Err}
use Rattle.std.specs.List.{flat_map}
use Rattle.wire_streams.specs.Streams.{Gains}
use Rattle.wire_streams.specs.Whole.{GainsFront}
use Rattle.wire_histories.specs.declared.step.Step.{Step}
use Rattle.wire_histories.specs.Lines.{step_line}
use Rattle.world_history.specs.declared.record.Cut.{Cut}
use Rattle.world_history.specs.declared.record.Cut.TheVariants.{WriteFault, NoMemory}

-- the lines of steps
abbrev pub lines_of : List Step → List ℕ
lines_of steps = flat_map step_line steps

-- what was written of a text: a front of it, of which something is missing, or all of it where memory ran out behind it
abbrev pub WritesBy : Cut → Option (List ℕ) → Option (List ℕ) → List ℕ → Type 0
WritesBy WriteFault before now text = GainsFront before now text
WritesBy NoMemory before now text = Gains before now text

-- the first of some steps were recorded behind those that stood
pub record StopsBy (cut : Cut) (steps old new : List Step) (before now : Option (List ℕ)) : Type 0 where
  pub front : List Step
  pub rest : List Step
  pub parts : steps ≡ front ++ rest
  pub kept : new ≡ old ++ front
  pub written : WritesBy cut before now (lines_of front)

-- a write failed
abbrev pub write_failed : {X : Type 0} → Result X Cut → Bool
write_failed (Ok value) = false
write_failed (Err WriteFault) = true
write_failed (Err NoMemory) = false
