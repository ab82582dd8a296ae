-- What is shown of a stream: the lines of its whole frames, and what a showing that ended so has read and written.
-- Content is optional: the words on it hold where it is told.
use Rattle.std.specs.Prelude.{◌≡◌, ◌<◌, ◌↔◌, ◌⊎◌, ℕ, ◌+◌, ◌-◌, List, [], ◌∷◌, ◌++◌, length, Bool, Option}
use Rattle.std.specs.Io.KnownBytes.{Consumes, IsAtEnd}
use Rattle.wire_streams.specs.Streams.{Gains}
use Rattle.wire_streams.specs.Whole.{GainsFront}
use Rattle.nine.specs.Streams.{frames, end_of, HasBadSize, HasNoBadSize, IsFrames}
use Rattle.nine_print.specs.declared.stream.ShowEnd.{ShowEnd}
use Rattle.nine_print.specs.declared.stream.ShowEnd.TheVariants.{Fine, ReadFault, WriteFault, BadSize, Torn, NoMemory, Flood}
use Rattle.nine_print.specs.Lines.{line_of, bad_size_line, torn_line}

-- the number that a process ends with
abbrev pub end_number : ShowEnd → ℕ
end_number Fine = 0
end_number ReadFault = 2
end_number WriteFault = 3
end_number BadSize = 5
end_number Torn = 6
end_number NoMemory = 10
end_number Flood = 11

-- the greatest size of a frame: 2^24
abbrev pub most_frame : ℕ
most_frame = 16777216

-- how many bytes of input are shown: 2^60
abbrev pub most_input : ℕ
most_input = 1152921504606846976

-- the whole frames of an input, up to the first bad size
abbrev pub frames_in : List ℕ → List (List ℕ)
frames_in input = frames most_frame input

-- secrets are shown, or aren't
module _ (secrets : Bool) where
  -- the lines of frames, the first of which begins at this place
  abbrev pub lines_from : ℕ → List (List ℕ) → List ℕ
  lines_from at [] = []
  lines_from at (frame ∷ frames) = line_of secrets at frame ++ lines_from (at + length frame) frames

  -- the lines of frames that begin a stream, one behind the other
  abbrev pub lines_of : List (List ℕ) → List ℕ
  lines_of frames = lines_from 0 frames

  -- The text of an input that is whole frames and nothing else: their lines.
  pub record IsWholeText (input text : List ℕ) : Type 0 where
    pub whole : IsFrames most_frame input
    pub lines : text ≡ lines_of (frames_in input)

  -- Of one with a size that no frame has behind its whole frames: their lines, and the line of that size.
  pub record IsBadText (input text : List ℕ) : Type 0 where
    pub size : ℕ
    pub bad : HasBadSize most_frame input size
    pub lines : text ≡ lines_of (frames_in input) ++ bad_size_line (end_of most_frame input) size

  -- Of one that ends inside a frame: the lines of its whole frames, and the line that tells how many bytes of one
  -- follow.
  pub record IsTornText (input text : List ℕ) : Type 0 where
    pub short : HasNoBadSize most_frame input
    pub inside : end_of most_frame input < length input
    pub lines : text ≡ lines_of (frames_in input)
        ++ torn_line (end_of most_frame input) (length input - end_of most_frame input)

  -- the lines of the first of the whole frames were written, of each the whole line
  pub record ShowsSome (held_old held_new : Option (List ℕ)) (input : List ℕ) : Type 0 where
    pub some : List (List ℕ)
    pub others : List (List ℕ)
    pub parts : frames_in input ≡ some ++ others
    pub written : Gains held_old held_new (lines_of some)

  -- what is to be written of what was read: the lines of its whole frames, and at a bad size or a torn end the line
  -- of it
  abbrev pub IsText : Option (List ℕ) → List ℕ → List ℕ → Type 0
  IsText left input text =
      (text ≡ lines_of (frames_in input)) ⊎ (IsBadText input text ⊎ (IsAtEnd left × IsTornText input text))

  -- how a showing that has read this input ends: what is left of the source, and what was written
  abbrev pub EndsSo : ShowEnd → Option (List ℕ) → Option (List ℕ) → Option (List ℕ) → List ℕ → Type 0
  EndsSo Fine left held_old held_new input =
      IsAtEnd left × ((text : List ℕ) × IsWholeText input text × Gains held_old held_new text)
  EndsSo ReadFault left held_old held_new input =
      HasNoBadSize most_frame input × Gains held_old held_new (lines_of (frames_in input))
  EndsSo WriteFault left held_old held_new input =
      (text : List ℕ) × IsText left input text × GainsFront held_old held_new text
  EndsSo BadSize left held_old held_new input = (text : List ℕ) × IsBadText input text × Gains held_old held_new text
  EndsSo Torn left held_old held_new input =
      IsAtEnd left × ((text : List ℕ) × IsTornText input text × Gains held_old held_new text)
  EndsSo NoMemory left held_old held_new input = ShowsSome held_old held_new input
  EndsSo Flood left held_old held_new input = ShowsSome held_old held_new input

  -- what a showing reads, and how it ends: more than the limit was read exactly where the end is a flood
  pub record Shows (end : ShowEnd) (left_old left_new held_old held_new : Option (List ℕ)) : Type 0 where
    pub input : List ℕ
    pub read : Consumes left_old left_new input
    pub flood : (end ≡ Flood) ↔ (most_input < length input)
    pub ends : EndsSo end left_new held_old held_new input
