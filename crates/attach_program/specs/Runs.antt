-- A run of the file server over its frames: each is answered by the door as its definitions say, with a word that was
-- drawn for it alone. What the door asks its port is answered by requests to the agent, each replied to as the agent
-- replies, whose history begins with the keys and goes on from frame to frame. A run is the list of its turns, the
-- newest first.
use Rattle.std.specs.Prelude.{ℕ, List, [], ◌∷◌, ◌++◌, Option}
use Rattle.wire_streams.specs.Spawning.{Gains as Notes}
use Rattle.wire_streams.specs.Streams.{Gains}
use Rattle.auth_server.specs.Sessions.{DrawsAll}
use Rattle.agent_history.specs.Histories.{History}
use Rattle.doors.specs.Calls.{PortCall}
use Rattle.doors.specs.Histories.{History as DoorHistory, IsTurn, Turn as DoorTurn, replies, reply_to}
use Rattle.door_ports.specs.Exchanges.{Exchange}
use Rattle.door_ports.specs.Agents.{AreReplied}
use Rattle.door_ports.specs.Settings.{AreMade, Setting, after, unasked, with_word}
use Rattle.attach_program.specs.Notes.{Note, note_of}

-- a frame, the word that was drawn for it, the calls of the port that were made for it, and what was exchanged with
-- the agent for these, the newest first
pub record Turn : Type 0 where
  pub frame : List ℕ
  pub word : List ℕ
  pub calls : List PortCall
  pub exchanged : List Exchange

abbrev pub Run : Type 0
Run = List Turn

-- what the door sees of it
abbrev pub in_door : Turn → DoorTurn
in_door turn = record { frame = turn.frame; calls = turn.calls }

abbrev pub door_of : Run → DoorHistory
door_of [] = []
door_of (turn ∷ before) = in_door turn ∷ door_of before

-- the frames and the words, in the order in which they came
abbrev pub frames_of : Run → List (List ℕ)
frames_of [] = []
frames_of (turn ∷ before) = frames_of before ++ turn.frame ∷ []

abbrev pub words_of : Run → List (List ℕ)
words_of [] = []
words_of (turn ∷ before) = words_of before ++ turn.word ∷ []

-- ---- the port, which asks the agent on connection 1

-- where a run leaves the port once it is told one more word
abbrev pub told_next : Run → List ℕ → Setting
told_next [] word = with_word word (unasked 1)
told_next (turn ∷ before) word = with_word word (after (told_next before turn.word) turn.calls)

-- all that was exchanged with the agent
abbrev pub exchanged_in : Run → List Exchange
exchanged_in [] = []
exchanged_in (turn ∷ before) = turn.exchanged ++ exchanged_in before

-- The port was asked what the door's definitions say; each call was answered by what was exchanged for it; and the
-- agent, which was given the keys before, replied so
pub record IsTurnOf (keys : History) (before : Run) (turn : Turn) : Type 0 where
  pub asks : IsTurn (door_of before) (in_door turn)
  pub made : AreMade (told_next before turn.word) turn.calls turn.exchanged
  pub replied : AreReplied keys (turn.exchanged ++ exchanged_in before)

abbrev pub IsRun : History → Run → Type 0
IsRun keys [] = Unit {0}
IsRun keys (turn ∷ before) = IsTurnOf keys before turn × IsRun keys before

-- ---- what it writes and notes

-- the replies, one behind the other
abbrev pub replies_of : Run → List ℕ
replies_of run = replies (door_of run)

-- what is noted of its attaches
abbrev pub notes_of : Run → List Note
notes_of [] = []
notes_of (turn ∷ before) = notes_of before ++ note_of turn.frame (reply_to (door_of before) (in_door turn))

-- what the outside tells at a moment: the words to come, the bytes that the output holds, and what was noted
pub record Sight : Type 0 where
  pub words : Option (List (List ℕ))
  pub holds : Option (List ℕ)
  pub noted : Option (List Note)

abbrev pub sight : Option (List (List ℕ)) → Option (List ℕ) → Option (List Note) → Sight
sight words holds noted = record { words = words; holds = holds; noted = noted }

-- between two moments these words were drawn, these bytes written, and these notes made
pub record Moves (before now : Sight) (drawn : List (List ℕ)) (written : List ℕ) (noted : List Note) : Type 0 where
  pub drew : DrawsAll before.words now.words drawn
  pub wrote : Gains before.holds now.holds written
  pub told : Notes before.noted now.noted noted

-- the run was carried out, and nothing else
abbrev pub Goes : Sight → Sight → Run → Type 0
Goes before now run = Moves before now (words_of run) (replies_of run) (notes_of run)
