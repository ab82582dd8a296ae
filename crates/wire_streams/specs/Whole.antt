-- What reading a source to its end, and writing a whole piece, leave where they fail. The
-- definitions are the project's own.
use Rattle.std.specs.Prelude.{◌≡◌, ℕ, ◌+◌, ◌<◌, ◌≤◌, ◌↔◌, Bool, true, false, List, ◌++◌, Option, Result, Ok, Err, length}
use Rattle.std.specs.Io.KnownBytes.{Consumes}
use Rattle.wire_streams.specs.declared.whole.WholeFault.{WholeFault}
use Rattle.wire_streams.specs.declared.whole.WholeFault.TheVariants.{Failed, Flood, NoMemory}
use Rattle.wire_streams.specs.declared.whole.TheConstants.{CHUNK}
use Rattle.wire_streams.specs.Streams.{Gains}

-- These bytes were taken of a source by a reading that failed. They are more than the limit exactly where the
-- fault is a flood, and then they are at most what one read asks for beyond it.
pub record TakesBefore (old new : Option (List ℕ)) (limit : ℕ) (fault : WholeFault) : Type 0 where
  pub taken : List ℕ
  pub consumed : Consumes old new taken
  pub flood : (fault ≡ Flood) ↔ (limit < length taken)
  pub bounded : length taken ≤ limit + CHUNK

-- Whether a read failed in a reading.
abbrev pub reading_failed : {X : Type 0} → Result X WholeFault → Bool
reading_failed (Ok read) = false
reading_failed (Err Failed) = true
reading_failed (Err Flood) = false
reading_failed (Err NoMemory) = false

-- A front of the piece was written, and some of the piece is missing.
pub record GainsFront (old new : Option (List ℕ)) (piece : List ℕ) : Type 0 where
  pub front : List ℕ
  pub rest : List ℕ
  pub parts : piece ≡ front ++ rest
  pub gained : Gains old new front
  pub missing : 0 < length rest
