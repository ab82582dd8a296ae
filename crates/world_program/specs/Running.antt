-- Of the code alone: what a run of a script tells the command that has it run.
use Rattle.std.specs.Prelude.{◌≡◌, ℕ, List, Some, None, ⊤}
use Rattle.wire_histories.specs.declared.step.Step.{Step}
use Rattle.world_run.specs.declared.play.WorldEnd.{WorldEnd}
use Rattle.world_run.specs.declared.play.WorldEnd.TheVariants as ends
use Rattle.world_history.specs.Scripts.{play, world}
use Rattle.auth_program.specs.declared.status.Status.{Status}
use Rattle.auth_program.specs.declared.status.Status.TheVariants.{Fine, WriteFault, BadScript, NoMemory}

-- the status of an end of a run
abbrev pub status_of : WorldEnd → Status
status_of ends.Done = Fine
status_of (ends.Bad line cause) = BadScript line cause
status_of ends.WriteFault = WriteFault
status_of ends.NoMemory = NoMemory

-- no line of a script was refused, and this is its record
pub record HasRun (script : List ℕ) (recorded : List Step) : Type 0 where
  pub done : (play script).refused ≡ None
  pub all : recorded ≡ world script

-- why there is none
abbrev pub HasNotRun : List ℕ → Status → Type 0
HasNotRun script (BadScript line cause) = (play script).refused ≡ Some (line, cause)
HasNotRun script NoMemory = ⊤
HasNotRun script status = ⊥
