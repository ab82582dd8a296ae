-- Of the code alone: where a showing stands between two reads, and what its parts tell each other.
use Rattle.std.specs.Prelude.{◌≡◌, ◌≤◌, ℕ, ◌+◌, List, [], ◌++◌, length, Bool, Option}
use Rattle.std.specs.Io.KnownBytes.{Consumes}
use Rattle.wire_streams.specs.Streams.{Gains}
use Rattle.wire_streams.specs.Whole.{GainsFront}
use Rattle.nine.specs.Streams.{front, IsShort}
use Rattle.nine.specs.Framed.{Framing}
use Rattle.nine.specs.Framing.{HasHandedOut}
use Rattle.nine_print.specs.declared.stream.ShowEnd.{ShowEnd}
use Rattle.nine_print.specs.declared.stream.ShowEnd.TheVariants.{Fine, ReadFault, WriteFault, BadSize, Torn, NoMemory, Flood}
use Rattle.nine_print.specs.declared.stream.Showing.{Showing}
use Rattle.nine_print.specs.Shown.{most_frame, most_input, lines_of, frames_in, IsBadText, IsText, ShowsSome}

-- how many bytes were taken
abbrev pub taken_by : Showing → ℕ
taken_by showing = showing.framer.before + length showing.framer.held

module _ (secrets : Bool) where
  -- some frames of the stream were shown: their lines are what was written so far and what is to be written
  pub record Handed (so_far stream : List ℕ) (handed : List (List ℕ)) (framer : Framing) (lines : List ℕ) : Type 0 where
    pub cut : HasHandedOut framer stream handed
    pub limit : framer.limit ≡ most_frame
    pub text : so_far ++ lines ≡ lines_of secrets handed

  -- all whole frames of the stream were shown, and no bad size follows
  pub record AllHanded (so_far stream : List ℕ) (framer : Framing) (lines : List ℕ) : Type 0 where
    pub all : Handed so_far stream (frames_in stream) framer lines
    pub short : front most_frame framer.held ≡ IsShort

  -- the lines of the first of the whole frames
  pub record IsSome (stream text : List ℕ) : Type 0 where
    pub some : List (List ℕ)
    pub others : List (List ℕ)
    pub parts : frames_in stream ≡ some ++ others
    pub lines : text ≡ lines_of secrets some

  -- why not all frames were shown: a bad size behind them, or memory ran out
  abbrev pub StopsAt : ShowEnd → List ℕ → List ℕ → Type 0
  StopsAt Fine stream text = ⊥
  StopsAt ReadFault stream text = ⊥
  StopsAt WriteFault stream text = ⊥
  StopsAt BadSize stream text = IsBadText secrets stream text
  StopsAt Torn stream text = ⊥
  StopsAt NoMemory stream text = IsSome stream text
  StopsAt Flood stream text = ⊥

  -- and what was written then
  abbrev pub CutsAt : ShowEnd → Option (List ℕ) → Option (List ℕ) → Option (List ℕ) → List ℕ → Type 0
  CutsAt Fine left origin held stream = ⊥
  CutsAt ReadFault left origin held stream = ⊥
  CutsAt WriteFault left origin held stream =
      (text : List ℕ) × IsText secrets left stream text × GainsFront origin held text
  CutsAt BadSize left origin held stream = (text : List ℕ) × IsBadText secrets stream text × Gains origin held text
  CutsAt Torn left origin held stream = ⊥
  CutsAt NoMemory left origin held stream = ShowsSome secrets origin held stream
  CutsAt Flood left origin held stream = ⊥

  -- the lines of all whole frames of the stream were written
  pub record Told (origin held : Option (List ℕ)) (stream : List ℕ) (framer : Framing) (lines : List ℕ) : Type 0 where
    pub handed : AllHanded (lines_of secrets (frames_in stream)) stream framer lines
    pub none : lines ≡ []
    pub written : Gains origin held (lines_of secrets (frames_in stream))

  -- between two reads
  pub record Shown (first now origin held : Option (List ℕ)) (showing : Showing) : Type 0 where
    pub stream : List ℕ
    pub read : Consumes first now stream
    pub few : length stream ≤ most_input
    pub told : Told origin held stream showing.framer showing.lines
