-- What a connection of an agent comes to, by the bytes that are read of it: the requests that are entered with their
-- words, the hang behind them, and what is written, which is what the takes between them gave. Content is optional:
-- what is said of bytes and words holds where they are told.
use Rattle.std.specs.Prelude.{◌≡◌, ◌<◌, ◌≤◌, ℕ, List, [], ◌∷◌, ◌++◌, length, Option, None, Some, ⊤, Bool, true, false, ◌⊎◌}
use Rattle.std.specs.Io.KnownBytes.{Consumes, IsAtEnd}
use Rattle.wire_streams.specs.Streams.{Gains}
use Rattle.nine.specs.Streams.{end_of, HasBadSize, HasNoBadSize, IsFrames}
use Rattle.turn_lock.specs.Fronts.{Front, events, made, own}
use Rattle.turn_lock.specs.Seats.{front, numbers}
use Rattle.agent_history.specs.declared.event.Event.{Event}
use Rattle.agent_history.specs.declared.event.Event.TheVariants.{Hang, Take}
use Rattle.agent_history.specs.Histories.{answer, has_stopped, is_reply}
use Rattle.agent_hub.specs.Submits.{HubSeat}
use Rattle.agent_hub.specs.Entries.{Adds, Entered, events_in, text_of}
use Rattle.agent_hub.specs.Requesting.{Drawn, frames_in, frames_of, most_frame, requests, words_of}
use Rattle.agent_hub.specs.Exchanging.{without_takes}
use Rattle.agent_lines.specs.declared.ends.LineEnd.{LineEnd}
use Rattle.agent_lines.specs.declared.ends.LineEnd.TheVariants.{End, Torn, BadFrame, ReadFault, WordFault, Flood, NoMemory, Stopped, WriteFault}

-- how many bytes are taken of a connection: 2^40
abbrev pub most_input : ℕ
most_input = 1099511627776

-- these words were drawn, the first of them first, where the words to come are told
abbrev pub DrawsAll : Option (List (List ℕ)) → Option (List (List ℕ)) → List (List ℕ) → Type 0
DrawsAll None later drawn = ⊤
DrawsAll (Some words) None drawn = ⊥
DrawsAll (Some words) (Some later) drawn = words ≡ drawn ++ later

-- The bytes that were read: the input within the limit, and what was read behind it, which is something only where the
-- input is as long as the limit.
pub record Reads (old new : Option (List ℕ)) (input behind : List ℕ) : Type 0 where
  pub taken : Consumes old new (input ++ behind)
  pub bounded : length input ≤ most_input
  pub full : 0 < length behind → length input ≡ most_input

-- at one moment: the seat, the words to come, what the source has left, and what the sink holds
pub record Moment : Type 0 where
  pub seat : HubSeat
  pub words : Option (List (List ℕ))
  pub input : Option (List ℕ)
  pub output : Option (List ℕ)

-- such a moment by its parts
abbrev pub moment : HubSeat → Option (List (List ℕ)) → Option (List ℕ) → Option (List ℕ) → Moment
moment seat words input output = record { seat = seat; words = words; input = input; output = output }

-- The seat's own new entries are, without takes on the connection, a request for each of these frames with the word
-- that was drawn for it, and these events behind them; some words more were drawn. What all of them were answered by,
-- the oldest first, is what was written, and these bytes behind it
pub record Serves (conn : ℕ) (last : List Event) (wanted spare : List (List ℕ)) (unwritten : List ℕ)
    (first now : Moment) : Type 0 where
  pub drawn : List Drawn
  pub mine : List Entered
  pub added : Adds mine first.seat now.seat
  pub entered : without_takes conn (events_in mine) ≡ last ++ requests conn drawn
  pub are : frames_of drawn ≡ wanted
  pub drew : DrawsAll first.words now.words (words_of drawn ++ spare)
  pub text : List ℕ
  pub gave : text_of mine ≡ text ++ unwritten
  pub written : Gains first.output now.output text

-- how many frames are handed on in one turn, at most
abbrev pub most_batch : ℕ
most_batch = 32

-- all frames of the input were handed on
abbrev pub HandsAll : List ℕ → List (List ℕ) → List (List ℕ) → Type 0
HandsAll input wanted spare = (wanted ≡ frames_in input) × (spare ≡ [])

-- the first frames of the input were; for some of the next ones words may have been drawn
abbrev pub HandsSome : List ℕ → List (List ℕ) → List (List ℕ) → Type 0
HandsSome input wanted spare =
    (others : List (List ℕ)) × (frames_in input ≡ wanted ++ others) × (length spare ≤ most_batch)

-- the first frames of the input were, and for the next one there was no word
abbrev pub LacksWord : List ℕ → List (List ℕ) → List (List ℕ) → Type 0
LacksWord input wanted spare =
    (frame : List ℕ) × (others : List (List ℕ)) × (frames_in input ≡ wanted ++ frame ∷ others) × (spare ≡ [])

-- Why it ended, by the input, what was read behind it, the frames that were handed on and the words that weren't
-- used: at the end of whole frames, inside a frame, or behind a bad size; where a read failed, for want of a word,
-- behind too many bytes; and in the three other cases somewhere
abbrev pub EndsBy : LineEnd → Option (List ℕ) → List ℕ → List ℕ → List (List ℕ) → List (List ℕ) → Type 0
EndsBy End left input behind wanted spare =
    IsAtEnd left × (behind ≡ []) × IsFrames most_frame input × HandsAll input wanted spare
EndsBy (Torn at) left input behind wanted spare = IsAtEnd left × (behind ≡ []) × (at ≡ end_of most_frame input)
    × (at < length input) × HasNoBadSize most_frame input × HandsAll input wanted spare
EndsBy (BadFrame at size) left input behind wanted spare =
    (at ≡ end_of most_frame input) × HasBadSize most_frame input size × HandsAll input wanted spare
EndsBy ReadFault left input behind wanted spare =
    (behind ≡ []) × HasNoBadSize most_frame input × HandsAll input wanted spare
EndsBy WordFault left input behind wanted spare = LacksWord input wanted spare
EndsBy Flood left input behind wanted spare =
    (0 < length behind) × HasNoBadSize most_frame input × HandsAll input wanted spare
EndsBy NoMemory left input behind wanted spare = HandsSome input wanted spare
EndsBy Stopped left input behind wanted spare = HandsSome input wanted spare
EndsBy WriteFault left input behind wanted spare = HandsSome input wanted spare

-- what was read, entered and written where it ended so
pub record Ends (conn : ℕ) (last : List Event) (end : LineEnd) (unwritten : List ℕ) (first now : Moment) : Type 0 where
  pub input : List ℕ
  pub behind : List ℕ
  pub read : Reads first.input now.input input behind
  pub wanted : List (List ℕ)
  pub spare : List (List ℕ)
  pub why : EndsBy end now.input input behind wanted spare
  pub serves : Serves conn last wanted spare unwritten first now

-- after a write fault some bytes are missing, and else none
abbrev pub MissesBytes : LineEnd → List ℕ → Type 0
MissesBytes End unwritten = unwritten ≡ []
MissesBytes (Torn at) unwritten = unwritten ≡ []
MissesBytes (BadFrame at size) unwritten = unwritten ≡ []
MissesBytes ReadFault unwritten = unwritten ≡ []
MissesBytes WordFault unwritten = unwritten ≡ []
MissesBytes Flood unwritten = unwritten ≡ []
MissesBytes NoMemory unwritten = unwritten ≡ []
MissesBytes Stopped unwritten = unwritten ≡ []
MissesBytes WriteFault unwritten = 0 < length unwritten

-- no reply was left to take behind this front, or the agent had stopped
abbrev pub NoneLeft : ℕ → Front Event → Type 0
NoneLeft conn seen = (has_stopped (events seen) ≡ true) ⊎ (is_reply (answer (events seen) (Take conn)).0 ≡ false)

-- unless memory was short or the sink failed, so it was; and where the end is that the agent stopped, it had
abbrev pub TookAll : LineEnd → ℕ → Front Event → Type 0
TookAll End conn seen = NoneLeft conn seen
TookAll (Torn at) conn seen = NoneLeft conn seen
TookAll (BadFrame at size) conn seen = NoneLeft conn seen
TookAll ReadFault conn seen = NoneLeft conn seen
TookAll WordFault conn seen = NoneLeft conn seen
TookAll Flood conn seen = NoneLeft conn seen
TookAll NoMemory conn seen = Unit {0}
TookAll Stopped conn seen = has_stopped (events seen) ≡ true
TookAll WriteFault conn seen = Unit {0}

-- The connection ended so, and was hung up: it was served, all replies that didn't have to wait were taken, and
-- behind that nothing was entered but the hang
pub record LineEndsSo (end : LineEnd) (conn : ℕ) (first now : Moment) : Type 0 where
  pub unwritten : List ℕ
  pub misses : MissesBytes end unwritten
  pub ends : Ends conn (Hang conn ∷ []) end unwritten first now
  pub seen : Front Event
  pub others : Front Event
  pub hung : front now.seat ≡ made (numbers now.seat) (Hang conn ∷ []) ++ (others ++ seen)
  pub of_others : own (numbers now.seat) others ≡ []
  pub took : TookAll end conn seen

-- which count of faults rose where it ended so: that of the source, of the words or of the sink
abbrev pub CausedBy : LineEnd → Type 0 → Type 0 → Type 0 → Type 0
CausedBy End reads words writes = Unit {0}
CausedBy (Torn at) reads words writes = Unit {0}
CausedBy (BadFrame at size) reads words writes = Unit {0}
CausedBy ReadFault reads words writes = reads
CausedBy WordFault reads words writes = words
CausedBy Flood reads words writes = Unit {0}
CausedBy NoMemory reads words writes = Unit {0}
CausedBy Stopped reads words writes = Unit {0}
CausedBy WriteFault reads words writes = writes
