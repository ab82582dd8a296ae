-- What a source that is read ahead has read and not handed out. The definitions are the project's own, in the words
-- that std has for its readers.
use Rattle.std.specs.Prelude.{◌≡◌, ℕ, ◌<◌, List, [], Option, length}
use Rattle.std.specs.Io.KnownBytes.{Consumes, IsAtEnd, Keeps}
use Rattle.wire_streams.specs.declared.source.Got.{Got}
use Rattle.wire_streams.specs.declared.source.Got.TheVariants.{Bytes, End, Failed}
use Rattle.wire_streams.specs.declared.read_ahead.ReadAhead.{ReadAhead}

-- the source below, and what was read of it and not handed out
abbrev pub source_below : {S : Type 0} → ReadAhead S → S
source_below source = source.inner

abbrev pub bytes_ahead : {S : Type 0} → ReadAhead S → List ℕ
bytes_ahead source = source.held

-- Where nothing was held, what is held now came off the source, at least one byte; or the source is at its end, or a
-- read failed, and nothing is held.
abbrev pub Refills : Option (List ℕ) → Option (List ℕ) → Got → List ℕ → Type 0
Refills old new (Bytes n) held = (0 < length held) × Consumes old new held
Refills old new End held = (held ≡ []) × IsAtEnd new × Keeps old new
Refills old new Failed held = (held ≡ []) × Keeps old new
