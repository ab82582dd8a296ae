-- What one read does to the bytes that a source has left, and one write to the bytes that a sink
-- holds. Both are optional, since a source or a sink need not tell its bytes. The definitions are
-- the project's own, in the words that std has for its readers and writers.
use Rattle.std.specs.Prelude.{◌≡◌, ℕ, ◌<◌, ◌≤◌, Bool, true, false, List, [], ◌++◌, Option, None, Some, length, take, ⊤}
use Rattle.std.specs.Io.KnownBytes.{Consumes, IsAtEnd, Keeps}
use Rattle.wire_streams.specs.declared.source.Got.{Got}
use Rattle.wire_streams.specs.declared.source.Got.TheVariants.{Bytes, End, Failed}
use Rattle.wire_streams.specs.declared.sink.Put.{Put}
use Rattle.wire_streams.specs.declared.sink.Put.TheVariants.{Took, Failed as NotTaken}

-- What a read into `out` tells of the bytes left before and after it: n bytes, at least one, came
-- off the front and stand at the front of `out`; or nothing is left; or the read failed and all
-- stayed.
abbrev pub Reads : Option (List ℕ) → Option (List ℕ) → Got → List ℕ → Type 0
Reads old new (Bytes n) out = (0 < n) × (n ≤ length out) × Consumes old new (take n out)
Reads old new End out = IsAtEnd new × Keeps old new
Reads old new Failed out = Keeps old new

-- Bytes that are known now were known before, and these came behind them. It says nothing where
-- none are known now, since a sink may stop telling.
abbrev pub Gains : Option (List ℕ) → Option (List ℕ) → List ℕ → Type 0
Gains old None bs = ⊤
Gains None (Some ys) bs = ⊥
Gains (Some xs) (Some ys) bs = ys ≡ xs ++ bs

-- What a write of `piece` tells of the bytes held before and after it: the first n bytes of the
-- piece, at least one, came behind them; or the write failed and none came.
abbrev pub Writes : Option (List ℕ) → Option (List ℕ) → Put → List ℕ → Type 0
Writes old new (Took n) piece = (0 < n) × (n ≤ length piece) × Gains old new (take n piece)
Writes old new NotTaken piece = Gains old new []

-- Whether a read failed.
abbrev pub read_failed : Got → Bool
read_failed (Bytes n) = false
read_failed End = false
read_failed Failed = true

-- Whether a write failed.
abbrev pub write_failed : Put → Bool
write_failed (Took n) = false
write_failed NotTaken = true
