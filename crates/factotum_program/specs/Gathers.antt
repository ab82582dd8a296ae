-- Of the code alone: what is told of a text, of which some was written and the rest is gathered.
use Rattle.std.specs.Prelude.{◌≡◌, ◌<◌, ℕ, List, ◌++◌, length, Option}
use Rattle.wire_streams.specs.Streams.{Gains}
use Rattle.auth_program.specs.declared.status.Status.{Status}
use Rattle.auth_program.specs.declared.status.Status.TheVariants.{WriteFault}

-- a front of the text was written, and the rest is gathered, to be written behind it
pub record Gathers (origin held : Option (List ℕ)) (gathered text : List ℕ) : Type 0 where
  pub front : List ℕ
  pub parts : text ≡ front ++ gathered
  pub written : Gains origin held front

-- so much is told of a front of the text; where a write failed some of the text is missing
pub record GathersPart (status : Status) (origin held : Option (List ℕ)) (gathered text : List ℕ) : Type 0 where
  pub told : List ℕ
  pub rest : List ℕ
  pub parts : text ≡ told ++ rest
  pub gathers : Gathers origin held gathered told
  pub missing : status ≡ WriteFault → 0 < length rest
