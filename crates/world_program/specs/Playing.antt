-- What `world` has read and written when it ends. Content is optional: the words on it hold where it is told.
use Rattle.std.specs.Prelude.{◌≡◌, ◌≤◌, ℕ, List, ◌++◌, length, Option, Some, None, ◌⊎◌}
use Rattle.wire_streams.specs.Streams.{Gains}
use Rattle.wire_streams.specs.Whole.{GainsFront}
use Rattle.wire_histories.specs.declared.step.Step.{Step}
use Rattle.auth_program.specs.declared.cause.ScriptCause.{ScriptCause}
use Rattle.world_history.specs.Scripts.{play, world}
use Rattle.world_history.specs.Writing.{lines_of}
use Rattle.world_promises.specs.Statements.{IsPromised}
use Rattle.auth_program.specs.Files.{FloodsFile, ReadsFile, ReadsPart, most_file}
use Rattle.auth_program.specs.declared.status.Status.{Status}
use Rattle.auth_program.specs.declared.status.Status.TheVariants.{Fine, ReadFault, WriteFault, BadScript, NoMemory, Flood}

-- a script was read to its end and all of its lines were carried out, and the lines of its record were written
pub record PlaysAll (left_old left_new holds_old holds_new : Option (List ℕ)) : Type 0 where
  pub script : List ℕ
  pub read : ReadsFile left_old left_new script
  pub done : (play script).refused ≡ None
  pub written : Gains holds_old holds_new (lines_of (world script))
  pub promised : IsPromised script

-- a script was read to its end; this is its first line that is refused, for this cause, and the lines of its record,
-- which is that of the lines before it, were written
pub record PlaysUpTo (line : ℕ) (cause : ScriptCause)
    (left_old left_new holds_old holds_new : Option (List ℕ)) : Type 0 where
  pub script : List ℕ
  pub read : ReadsFile left_old left_new script
  pub refused : (play script).refused ≡ Some (line, cause)
  pub written : Gains holds_old holds_new (lines_of (world script))
  pub promised : IsPromised script

-- a script was read to its end, and of the lines of its record a front was written, of which something is missing
pub record PlaysFront (left_old left_new holds_old holds_new : Option (List ℕ)) : Type 0 where
  pub script : List ℕ
  pub read : ReadsFile left_old left_new script
  pub written : GainsFront holds_old holds_new (lines_of (world script))
  pub promised : IsPromised script

-- a script was read to its end, and the lines of the first steps of its record were written
pub record PlaysSome (left_old left_new holds_old holds_new : Option (List ℕ)) : Type 0 where
  pub script : List ℕ
  pub read : ReadsFile left_old left_new script
  pub first : List Step
  pub rest : List Step
  pub parts : world script ≡ first ++ rest
  pub written : Gains holds_old holds_new (lines_of first)
  pub promised : IsPromised script

-- what a `world` that ended so has read and written; no other status ends it
abbrev pub WorldSo : Status → Option (List ℕ) → Option (List ℕ) → Option (List ℕ) → Option (List ℕ) → Type 0
WorldSo Fine left_old left_new holds_old holds_new = PlaysAll left_old left_new holds_old holds_new
WorldSo ReadFault left_old left_new holds_old holds_new = ReadsPart left_old left_new × (holds_new ≡ holds_old)
WorldSo WriteFault left_old left_new holds_old holds_new = PlaysFront left_old left_new holds_old holds_new
WorldSo (BadScript line cause) left_old left_new holds_old holds_new =
    PlaysUpTo line cause left_old left_new holds_old holds_new
WorldSo NoMemory left_old left_new holds_old holds_new =
    (holds_new ≡ holds_old) ⊎ PlaysSome left_old left_new holds_old holds_new
WorldSo (Flood limit) left_old left_new holds_old holds_new =
    (limit ≡ most_file) × FloodsFile left_old left_new × (holds_new ≡ holds_old)
WorldSo status left_old left_new holds_old holds_new = ⊥

-- a script is told, it isn't too long, and none of its lines is refused
pub record IsPlayable (left : Option (List ℕ)) : Type 0 where
  pub script : List ℕ
  pub told : left ≡ Some script
  pub few : length script ≤ most_file
  pub done : (play script).refused ≡ None
