-- What a pipe has read, drawn, asked and written when it ends, by the bytes that it read. Content is optional: the
-- words on it hold where it is told.
use Rattle.std.specs.Prelude.{◌≡◌, ◌<◌, ◌≤◌, ℕ, List, [], ◌∷◌, ◌++◌, length, Option, true}
use Rattle.std.specs.Io.KnownBytes.{Consumes, IsAtEnd}
use Rattle.wire_streams.specs.Streams.{Gains}
use Rattle.nine.specs.Streams.{frames, end_of, HasBadSize, HasNoBadSize, IsFrames}
use Rattle.auth_program.specs.declared.status.Status.{Status}
use Rattle.auth_program.specs.declared.status.Status.TheVariants.{Fine, Usage, ReadFault, WriteFault, WordFault, BadFrame, Torn, BadScript, BadTables, AsEnded, NoMemory, Flood}
use Rattle.factotum_program.specs.Pipe.{Turn, all_met, frames_of, most_frame, pipe, replies_text, text_of}
use Rattle.factotum_program.specs.Sights.{Goes, GoesPart, Sight}

-- how many bytes of input a pipe takes: 2^40
abbrev pub most_input : ℕ
most_input = 1099511627776

-- the whole frames of an input, up to the first bad size
abbrev pub frames_in : List ℕ → List (List ℕ)
frames_in input = frames most_frame input

-- The bytes that were read: the input within the limit, and what was read behind it, which is something only where the
-- input is as long as the limit.
pub record Reads (old new : Option (List ℕ)) (input behind : List ℕ) : Type 0 where
  pub taken : Consumes old new (input ++ behind)
  pub bounded : length input ≤ most_input
  pub full : 0 < length behind → length input ≡ most_input

-- Each of these frames was answered: a word was drawn for it, all that it made the agent ask was asked, the
-- connections to the authentication server that it made the agent give up were closed, and its replies were written.
pub record Replies (frames : List (List ℕ)) (before now : Sight) : Type 0 where
  pub turns : List Turn
  pub are : frames_of turns ≡ frames
  pub goes : Goes before now turns
  pub met : all_met turns ≡ true
  pub written : Gains before.holds now.holds (replies_text turns)

-- the input was read to its end, it is whole frames, and what was written is the text of their pipe
pub record Answers (left_old left_new : Option (List ℕ)) (before now : Sight) : Type 0 where
  pub input : List ℕ
  pub read : Reads left_old left_new input []
  pub at_end : IsAtEnd left_new
  pub whole : IsFrames most_frame input
  pub replies : Replies (frames_in input) before now
  pub piped : Gains before.holds now.holds (text_of (pipe replies.turns))

-- a size that no frame has stands behind the whole frames, which were answered
pub record MeetsBadFrame (at size : ℕ) (left_old left_new : Option (List ℕ)) (before now : Sight) : Type 0 where
  pub input : List ℕ
  pub behind : List ℕ
  pub read : Reads left_old left_new input behind
  pub place : at ≡ end_of most_frame input
  pub bad : HasBadSize most_frame input size
  pub replies : Replies (frames_in input) before now

-- the input was read to its end, which is inside the frame that begins behind the whole ones, which were answered
pub record EndsInside (at : ℕ) (left_old left_new : Option (List ℕ)) (before now : Sight) : Type 0 where
  pub input : List ℕ
  pub read : Reads left_old left_new input []
  pub at_end : IsAtEnd left_new
  pub place : at ≡ end_of most_frame input
  pub inside : at < length input
  pub short : HasNoBadSize most_frame input
  pub replies : Replies (frames_in input) before now

-- more than the limit was read, and no bad size within it; the whole frames within it were answered
pub record Floods (left_old left_new : Option (List ℕ)) (before now : Sight) : Type 0 where
  pub input : List ℕ
  pub behind : List ℕ
  pub read : Reads left_old left_new input behind
  pub over : 0 < length behind
  pub short : HasNoBadSize most_frame input
  pub replies : Replies (frames_in input) before now

-- what was read has no bad size, and its whole frames were answered
pub record RepliesSoFar (left_old left_new : Option (List ℕ)) (before now : Sight) : Type 0 where
  pub input : List ℕ
  pub read : Reads left_old left_new input []
  pub short : HasNoBadSize most_frame input
  pub replies : Replies (frames_in input) before now

-- a frame of what was read has no word; those before it were answered
pub record LacksWord (left_old left_new : Option (List ℕ)) (before now : Sight) : Type 0 where
  pub input : List ℕ
  pub behind : List ℕ
  pub read : Reads left_old left_new input behind
  pub front : List (List ℕ)
  pub frame : List ℕ
  pub others : List (List ℕ)
  pub parts : frames_in input ≡ front ++ frame ∷ others
  pub replies : Replies front before now

-- a front of a text was written; where a write failed some of the text is missing
pub record GainsPart (status : Status) (old new : Option (List ℕ)) (text : List ℕ) : Type 0 where
  pub front : List ℕ
  pub rest : List ℕ
  pub parts : text ≡ front ++ rest
  pub written : Gains old new front
  pub missing : status ≡ WriteFault → 0 < length rest

-- For each of these frames a word was drawn, and all that it made the agent ask was asked, and all that it made it
-- give up was closed, but for the last one, of which some may be left to ask and to close; a front of their replies
-- was written.
pub record RepliesPart (status : Status) (frames : List (List ℕ)) (before now : Sight) : Type 0 where
  pub turns : List Turn
  pub last : List Turn
  pub one : length last ≤ 1
  pub are : frames_of (turns ++ last) ≡ frames
  pub goes : GoesPart before now (turns ++ last)
  pub met : all_met turns ≡ true
  pub written : GainsPart status before.holds now.holds (replies_text (turns ++ last))

-- the first of the frames that were read were answered in part
pub record RepliesInPart (status : Status) (left_old left_new : Option (List ℕ)) (before now : Sight) : Type 0 where
  pub input : List ℕ
  pub behind : List ℕ
  pub read : Reads left_old left_new input behind
  pub front : List (List ℕ)
  pub others : List (List ℕ)
  pub parts : frames_in input ≡ front ++ others
  pub replies : RepliesPart status front before now

-- what a pipe that ended so has read, drawn, asked and written; no other status ends it
abbrev pub EndsSo : Status → Option (List ℕ) → Option (List ℕ) → Sight → Sight → Type 0
EndsSo Fine left_old left_new before now = Answers left_old left_new before now
EndsSo Usage left_old left_new before now = ⊥
EndsSo ReadFault left_old left_new before now = RepliesSoFar left_old left_new before now
EndsSo WriteFault left_old left_new before now = RepliesInPart WriteFault left_old left_new before now
EndsSo WordFault left_old left_new before now = LacksWord left_old left_new before now
EndsSo (BadFrame at size) left_old left_new before now = MeetsBadFrame at size left_old left_new before now
EndsSo (Torn at) left_old left_new before now = EndsInside at left_old left_new before now
EndsSo (BadScript line cause) left_old left_new before now = ⊥
EndsSo (BadTables speaks line) left_old left_new before now = ⊥
EndsSo (AsEnded end) left_old left_new before now = ⊥
EndsSo NoMemory left_old left_new before now = RepliesInPart NoMemory left_old left_new before now
EndsSo (Flood limit) left_old left_new before now = (limit ≡ most_input) × Floods left_old left_new before now
