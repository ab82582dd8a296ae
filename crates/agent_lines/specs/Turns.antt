-- Of the code alone: where a connection stands between two turns, and what its parts tell each other.
use Rattle.std.specs.Prelude.{◌≡◌, ◌<◌, ◌≤◌, ℕ, ◌+◌, List, [], ◌∷◌, ◌++◌, length, take, drop, Bool, true, false, nat_le, Option, ◌⊎◌, Result, Ok, Err}
use Rattle.std.specs.Io.KnownBytes.{Consumes}
use Rattle.wire_streams.specs.Streams.{Gains}
use Rattle.nine.specs.Streams.{front as at_front, IsBad, IsShort}
use Rattle.nine.specs.Framed.{Framing, passed}
use Rattle.nine.specs.Framing.{HasHandedOut}
use Rattle.turn_lock.specs.Seats.{front}
use Rattle.agent_hub.specs.Requesting.{most_frame}
use Rattle.agent_hub.specs.declared.exchange.Exchanged.{Exchanged}
use Rattle.agent_hub.specs.declared.exchange.TakesEnd.{TakesEnd}
use Rattle.agent_hub.specs.declared.exchange.TakesEnd.TheVariants as takes
use Rattle.agent_lines.specs.declared.ends.LineEnd.{LineEnd}
use Rattle.agent_lines.specs.declared.ends.LineEnd.TheVariants.{End, Torn, BadFrame, ReadFault, WordFault, Flood, NoMemory, Stopped, WriteFault}
use Rattle.agent_lines.specs.Lining.{DrawsAll, Ends, MissesBytes, Moment, Serves, TookAll, most_input}

-- so many bytes were taken
abbrev pub taken_by : Framing → ℕ
taken_by f = f.before + length f.held

-- some frames of what was read were handed on, and these bytes are to be written
pub record Going (conn : ℕ) (first now : Moment) (framer : Framing) (kept : List ℕ) : Type 0 where
  pub stream : List ℕ
  pub read : Consumes first.input now.input stream
  pub few : length stream ≤ most_input
  pub some : List (List ℕ)
  pub cut : HasHandedOut framer stream some
  pub limit : framer.limit ≡ most_frame
  pub serves : Serves conn [] some [] kept first now

-- some bytes are to be written where a write failed
abbrev pub FailsWith : LineEnd → List ℕ → Type 0
FailsWith End kept = Unit {0}
FailsWith (Torn at) kept = Unit {0}
FailsWith (BadFrame at size) kept = Unit {0}
FailsWith ReadFault kept = Unit {0}
FailsWith WordFault kept = Unit {0}
FailsWith Flood kept = Unit {0}
FailsWith NoMemory kept = Unit {0}
FailsWith Stopped kept = Unit {0}
FailsWith WriteFault kept = 0 < length kept

-- no more is handed on
pub record Halts (conn : ℕ) (end : LineEnd) (first now : Moment) (kept : List ℕ) : Type 0 where
  pub ends : Ends conn [] end kept first now
  pub fails : FailsWith end kept

-- a turn more, or the end
abbrev pub TurnSo : Result (Unit {0}) LineEnd → ℕ → Moment → Moment → Framing → List ℕ → Type 0
TurnSo (Ok x) conn first now framer kept = Going conn first now framer kept
TurnSo (Err end) conn first now framer kept = Halts conn end first now kept

-- all that could be taken was taken and written
pub record Settles (conn : ℕ) (end : LineEnd) (first now : Moment) (kept : List ℕ) : Type 0 where
  pub ends : Ends conn [] end kept first now
  pub misses : MissesBytes end kept
  pub took : TookAll end conn (front now.seat)

-- by the end of the last takes, where nothing was kept; where the agent had stopped, by takes that it answered so
abbrev pub SettledBy : LineEnd → TakesEnd → Result (Unit {0}) LineEnd → Type 0
SettledBy end took (Ok x) = Unit {0}
SettledBy end takes.NoneLeft (Err by) = (by ≡ end) × (end ≡ Stopped → ⊥)
SettledBy end takes.Stopped (Err by) = by ≡ end
SettledBy end takes.Left (Err by) = by ≡ NoMemory

-- it isn't settled yet, or it is
abbrev pub SettlesSo : Result (Unit {0}) LineEnd → ℕ → LineEnd → Moment → Moment → List ℕ → Type 0
SettlesSo (Ok x) conn end first now kept = Ends conn [] end kept first now
SettlesSo (Err by) conn end first now kept = Settles conn by first now kept

-- words were drawn, and stand behind those before
pub record DrawsMore (come later : Option (List (List ℕ))) (old new : List (List ℕ)) : Type 0 where
  pub more : List (List ℕ)
  pub parts : new ≡ old ++ more
  pub drew : DrawsAll come later more

-- a front of what is to be written was written
pub record Sends (held holds : Option (List ℕ)) (old new : List ℕ) : Type 0 where
  pub sent : List ℕ
  pub parts : old ≡ sent ++ new
  pub gains : Gains held holds sent

-- why a batch ended: memory was short for a frame, the agent stopped, or there was no word; or its frames were passed
abbrev pub BatchEndsSo : Result (Unit {0}) LineEnd → Result (Unit {0}) LineEnd → Exchanged → ℕ → ℕ → Framing → Framing
    → Type 0
BatchEndsSo (Ok x) drew came words size old new = (drew ≡ Ok tt) × (words ≤ came.entered) × (new ≡ passed old size)
BatchEndsSo (Err end) drew came words size old new =
    (end ≡ NoMemory) ⊎ ((end ≡ Stopped) ⊎ ((drew ≡ Err end) × (words ≤ came.entered)))

-- where an input that isn't too long ends
abbrev pub InputEndsBy : Framing → LineEnd → Type 0
InputEndsBy f end = ((0 < length f.held) × (end ≡ Torn f.before)) ⊎ ((0 < length f.held → ⊥) × (end ≡ End))

-- With how many bytes of replies kept more frames are handed on, at most: 1 MiB, less what a batch of 32 frames and 64
-- reads that wait may give in replies of 8216 bytes
abbrev pub most_left : ℕ
most_left = 259840

abbrev pub has_room : List ℕ → Bool
has_room kept = nat_le (length kept) most_left

-- no byte was read and no frame handed on, and no word was drawn; nothing was entered
pub record HoldsBack (old new : Framing) (before after : Moment) : Type 0 where
  pub framer : new ≡ old
  pub seat : after.seat ≡ before.seat
  pub words : after.words ≡ before.words
  pub input : after.input ≡ before.input
