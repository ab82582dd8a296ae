-- Of the code alone: a block of bytes of which a front is filled.
use Rattle.std.specs.Prelude.{◌≡◌, ◌<◌, ◌≤◌, ℕ, ◌+◌, List, ◌++◌, length, take, Option}
use Rattle.std.specs.Io.KnownBytes.{Consumes, IsAtEnd, Keeps}
use Rattle.wire_streams.specs.declared.source.Got.{Got}
use Rattle.wire_streams.specs.declared.source.Got.TheVariants.{Bytes, End, Failed}

-- how many bytes a read gave
abbrev pub count_of : Got → ℕ
count_of (Bytes n) = n
count_of End = 0
count_of Failed = 0

-- what a read behind the bytes that are filled came to: it begins as it did, and what was read stands behind that
abbrev pub ReadsInto : ℕ → ℕ → Option (List ℕ) → Option (List ℕ) → Got → List ℕ → List ℕ → Type 0
ReadsInto from most old new (Bytes n) before after = (piece : List ℕ) × (0 < n) × (n ≤ most) × (length piece ≡ n)
    × Consumes old new piece × (take (from + n) after ≡ take from before ++ piece)
ReadsInto from most old new End before after = IsAtEnd new × Keeps old new × (take from after ≡ take from before)
ReadsInto from most old new Failed before after = Keeps old new × (take from after ≡ take from before)
