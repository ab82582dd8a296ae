-- What a file server that asks an agent has read, drawn, written and noted when it ends, by the bytes that it read.
-- Content is optional: the words on it hold where it is told. That the keys are read first, and how much is read, are
-- this project's.
use Rattle.std.specs.Prelude.{◌≡◌, ◌⊎◌, ◌<◌, ◌≤◌, ℕ, List, [], ◌∷◌, ◌++◌, length, Option, true, false}
use Rattle.std.specs.Io.KnownBytes.{Consumes, IsAtEnd}
use Rattle.wire_streams.specs.Spawning.{Gains as Notes}
use Rattle.wire_streams.specs.Whole.{GainsFront}
use Rattle.nine.specs.Streams.{frames, end_of, HasBadSize, HasNoBadSize, IsFrames}
use Rattle.agent_history.specs.Histories.{History}
use Rattle.auth_server.specs.Sessions.{DrawsAll}
use Rattle.auth_program.specs.KeysWords.{are_keys_words}
use Rattle.attach_program.specs.declared.status.AttachStatus.{AttachStatus}
use Rattle.attach_program.specs.declared.status.AttachStatus.TheVariants.{Fine, Usage, ReadFault, WriteFault, WordFault, BadFrame, Torn, BadKeys, NoMemory, Flood}
use Rattle.attach_program.specs.Keys.{KeysEnd, KnowsKeys}
use Rattle.attach_program.specs.Notes.{Note}
use Rattle.attach_program.specs.Runs.{Goes, IsRun, Moves, Run, Sight, frames_of, notes_of, replies_of, sight, words_of}

-- the greatest size of a frame
abbrev pub most_frame : ℕ
most_frame = 8216

-- how many bytes of input are taken: 2^40
abbrev pub most_input : ℕ
most_input = 1099511627776

-- the whole frames of an input, up to the first bad size
abbrev pub frames_in : List ℕ → List (List ℕ)
frames_in input = frames most_frame input

-- The bytes that were read: the input within the limit, and what was read behind it, which is something only where the
-- input is as long as the limit.
pub record Reads (old new : Option (List ℕ)) (input behind : List ℕ) : Type 0 where
  pub taken : Consumes old new (input ++ behind)
  pub bounded : length input ≤ most_input
  pub full : 0 < length behind → length input ≡ most_input

-- each of these frames was answered by an agent with the keys: a word was drawn for it, and its reply was written
pub record Answers (keys : History) (frames : List (List ℕ)) (before now : Sight) : Type 0 where
  pub run : Run
  pub are : frames_of run ≡ frames
  pub is : IsRun keys run
  pub goes : Goes before now run

-- ---- by the status

-- the input was read to its end, and is whole frames
pub record AnswersAll (keys : History) (left_old left_new : Option (List ℕ)) (before now : Sight) : Type 0 where
  pub input : List ℕ
  pub read : Reads left_old left_new input []
  pub at_end : IsAtEnd left_new
  pub whole : IsFrames most_frame input
  pub answers : Answers keys (frames_in input) before now

-- a size that no frame has stands behind the whole frames
pub record MeetsBadFrame (at size : ℕ) (keys : History) (left_old left_new : Option (List ℕ)) (before now : Sight)
    : Type 0 where
  pub input : List ℕ
  pub read : Reads left_old left_new input []
  pub place : at ≡ end_of most_frame input
  pub bad : HasBadSize most_frame input size
  pub answers : Answers keys (frames_in input) before now

-- the input was read to its end, which is inside the frame that begins behind the whole ones
pub record EndsInside (at : ℕ) (keys : History) (left_old left_new : Option (List ℕ)) (before now : Sight)
    : Type 0 where
  pub input : List ℕ
  pub read : Reads left_old left_new input []
  pub at_end : IsAtEnd left_new
  pub place : at ≡ end_of most_frame input
  pub inside : at < length input
  pub short : HasNoBadSize most_frame input
  pub answers : Answers keys (frames_in input) before now

-- more than the limit was read, and no bad size within it
pub record Floods (keys : History) (left_old left_new : Option (List ℕ)) (before now : Sight) : Type 0 where
  pub input : List ℕ
  pub behind : List ℕ
  pub read : Reads left_old left_new input behind
  pub over : 0 < length behind
  pub short : HasNoBadSize most_frame input
  pub answers : Answers keys (frames_in input) before now

-- what was read has no bad size
pub record AnswersSoFar (keys : History) (left_old left_new : Option (List ℕ)) (before now : Sight) : Type 0 where
  pub input : List ℕ
  pub read : Reads left_old left_new input []
  pub short : HasNoBadSize most_frame input
  pub answers : Answers keys (frames_in input) before now

-- a frame of what was read has no word; those before it were answered
pub record LacksWord (keys : History) (left_old left_new : Option (List ℕ)) (before now : Sight) : Type 0 where
  pub input : List ℕ
  pub read : Reads left_old left_new input []
  pub front : List (List ℕ)
  pub frame : List ℕ
  pub others : List (List ℕ)
  pub parts : frames_in input ≡ front ++ frame ∷ others
  pub answers : Answers keys front before now

-- the first of the frames that were read were answered, but the last reply wasn't written whole
pub record LosesReply (keys : History) (left_old left_new : Option (List ℕ)) (before now : Sight) : Type 0 where
  pub input : List ℕ
  pub read : Reads left_old left_new input []
  pub run : Run
  pub others : List (List ℕ)
  pub parts : frames_in input ≡ frames_of run ++ others
  pub is : IsRun keys run
  pub drew : DrawsAll before.words now.words (words_of run)
  pub wrote : GainsFront before.holds now.holds (replies_of run)
  pub told : Notes before.noted now.noted (notes_of run)

-- memory ran out behind the first of the frames that were read; a word may have been drawn for the next
pub record LacksMemory (keys : History) (left_old left_new : Option (List ℕ)) (before now : Sight) : Type 0 where
  pub input : List ℕ
  pub read : Reads left_old left_new input []
  pub run : Run
  pub others : List (List ℕ)
  pub parts : frames_in input ≡ frames_of run ++ others
  pub is : IsRun keys run
  pub more : List (List ℕ)
  pub one : length more ≤ 1
  pub moves : Moves before now (words_of run ++ more) (replies_of run) (notes_of run)

-- what a connection that ended so has read, drawn, written and noted; no other status ends it
abbrev pub ConnectionEnds : History → AttachStatus → Option (List ℕ) → Option (List ℕ) → Sight → Sight → Type 0
ConnectionEnds keys Fine left_old left_new before now = AnswersAll keys left_old left_new before now
ConnectionEnds keys Usage left_old left_new before now = ⊥
ConnectionEnds keys ReadFault left_old left_new before now = AnswersSoFar keys left_old left_new before now
ConnectionEnds keys WriteFault left_old left_new before now = LosesReply keys left_old left_new before now
ConnectionEnds keys WordFault left_old left_new before now = LacksWord keys left_old left_new before now
ConnectionEnds keys (BadFrame at size) left_old left_new before now =
    MeetsBadFrame at size keys left_old left_new before now
ConnectionEnds keys (Torn at) left_old left_new before now = EndsInside at keys left_old left_new before now
ConnectionEnds keys (BadKeys line) left_old left_new before now = ⊥
ConnectionEnds keys NoMemory left_old left_new before now = LacksMemory keys left_old left_new before now
ConnectionEnds keys (Flood limit) left_old left_new before now =
    (limit ≡ most_input) × Floods keys left_old left_new before now

-- ---- the whole

-- what the outside tells at a moment: what the keys file and the input have left, and what there is of the connection
pub record Outside : Type 0 where
  pub keys : Option (List ℕ)
  pub left : Option (List ℕ)
  pub sight : Sight

abbrev pub outside : Option (List ℕ) → Option (List ℕ) → Option (List (List ℕ)) → Option (List ℕ)
    → Option (List Note) → Outside
outside keys left words holds noted = record { keys = keys; left = left; sight = sight words holds noted }

-- the keys file came to this end, and nothing else was touched
pub record StopsEarly (status : AttachStatus) (before now : Outside) : Type 0 where
  pub ends : KeysEnd status before.keys now.keys
  pub input : now.left ≡ before.left
  pub untouched : now.sight ≡ before.sight

-- the connection came to this end, with the keys that were read before
pub record Serves (status : AttachStatus) (before now : Outside) : Type 0 where
  pub keys : History
  pub knows : KnowsKeys before.keys now.keys keys
  pub ends : ConnectionEnds keys status before.left now.left before.sight now.sight

-- what a run of the program with these words that ended so has read, drawn, written and noted: nothing exactly where
-- they aren't its words
abbrev pub RunsSo : List (List ℕ) → AttachStatus → Outside → Outside → Type 0
RunsSo words status before now =
    ((are_keys_words words ≡ false) × (status ≡ Usage) × (now ≡ before))
    ⊎ ((are_keys_words words ≡ true) × (StopsEarly status before now ⊎ Serves status before now))

-- a fault comes only from reads, writes or draws that failed: what is said of each
abbrev pub IsCaused : AttachStatus → Type 0 → Type 0 → Type 0 → Type 0
IsCaused ReadFault reads writes draws = reads
IsCaused WriteFault reads writes draws = writes
IsCaused WordFault reads writes draws = draws
IsCaused status reads writes draws = Unit {0}
