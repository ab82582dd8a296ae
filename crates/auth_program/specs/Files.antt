-- What reading a file whole has taken of it. Content is optional: the words on it hold where it is told.
use Rattle.std.specs.Prelude.{◌≡◌, ℕ, ◌<◌, ◌≤◌, List, length, Option, ⊤}
use Rattle.std.specs.Io.KnownBytes.{Consumes, IsAtEnd}
use Rattle.auth_program.specs.declared.status.Status.{Status}
use Rattle.auth_program.specs.declared.status.Status.TheVariants.{ReadFault, NoMemory, Flood}

-- how many bytes of a file are taken: 2^22
abbrev pub most_file : ℕ
most_file = 4194304

-- a file was read to its end
pub record ReadsFile (before now : Option (List ℕ)) (file : List ℕ) : Type 0 where
  pub read : Consumes before now file
  pub at_end : IsAtEnd now
  pub few : length file ≤ most_file

-- of a file so much was read, which is more than is taken of one
pub record FloodsFile (before now : Option (List ℕ)) : Type 0 where
  pub taken : List ℕ
  pub read : Consumes before now taken
  pub over : most_file < length taken

-- of a file no more was read than is taken of one
pub record ReadsPart (before now : Option (List ℕ)) : Type 0 where
  pub taken : List ℕ
  pub read : Consumes before now taken
  pub few : length taken ≤ most_file

-- what a reading of a file that ended so has taken; no other status ends it
abbrev pub StopsSo : Status → Option (List ℕ) → Option (List ℕ) → Type 0
StopsSo ReadFault before now = ReadsPart before now
StopsSo NoMemory before now = ⊤
StopsSo (Flood limit) before now = (limit ≡ most_file) × FloodsFile before now
StopsSo status before now = ⊥
