-- What the adapters over std's readers and writers show of themselves. The definitions are the
-- project's own.
use Rattle.std.specs.Prelude.{ℕ, List, Option, take}
use Rattle.std.specs.Io.KnownBytes.{Appends, Keeps}
use Rattle.wire_streams.specs.declared.adapters.ReadSource.{ReadSource}
use Rattle.wire_streams.specs.declared.adapters.WriteSink.{WriteSink}
use Rattle.wire_streams.specs.declared.sink.Put.{Put}
use Rattle.wire_streams.specs.declared.sink.Put.TheVariants.{Took, Failed}

-- The reader below.
abbrev pub reader_of : {R : Type 0} → ReadSource R → R
reader_of source = source.inner

-- How many reads failed.
abbrev pub read_faults : {R : Type 0} → ReadSource R → ℕ
read_faults source = source.faults

-- The writer below.
abbrev pub writer_of : {W : Type 0} → WriteSink W → W
writer_of sink = sink.inner

-- How many writes failed.
abbrev pub write_faults : {W : Type 0} → WriteSink W → ℕ
write_faults sink = sink.faults

-- What a write put into the writer below, where that one tells its bytes: exactly those that are
-- said to be taken.
abbrev pub Passes : Option (List ℕ) → Option (List ℕ) → Put → List ℕ → Type 0
Passes old new (Took n) piece = Appends old new (take n piece)
Passes old new Failed piece = Keeps old new
