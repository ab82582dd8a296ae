-- Of the code alone: what its parts tell each other.
use Rattle.std.specs.Prelude.{◌≡◌, ◌≤◌, ℕ, ◌+◌, List, [], ◌∷◌, ◌++◌, length, Option, Some}
use Rattle.std.specs.Io.KnownBytes.{Consumes}
use Rattle.wire_streams.specs.Spawning.{Gains as Notes}
use Rattle.wire_streams.specs.Whole.{GainsFront}
use Rattle.auth_server.specs.Sessions.{DrawsAll}
use Rattle.nine.specs.Streams.{front, IsShort, end_of, HasBadSize}
use Rattle.nine.specs.Framed.{Framing}
use Rattle.nine.specs.Framing.{HasHandedOut}
use Rattle.agent_history.specs.Histories.{History}
use Rattle.agent_core.specs.declared.agent.Agent.{Agent}
use Rattle.agent_core.specs.Agents.{StandsFor}
use Rattle.doors.specs.Doors.{StandsFor as DoorStands}
use Rattle.doors.specs.Histories.{reply_to}
use Rattle.door_ports.specs.declared.agent_port.AgentPort.{AgentPort}
use Rattle.door_ports.specs.Exchanges.{Exchange}
use Rattle.door_ports.specs.Agents.{StandsBehind}
use Rattle.door_ports.specs.Settings.{Setting}
use Rattle.door_ports.specs.Ports.{StandsWith, Stood, fresh}
use Rattle.auth_program.specs.declared.status.Status.{Status}
use Rattle.auth_program.specs.declared.status.Status.TheVariants as files
use Rattle.attach_program.specs.declared.session.Session.{Session}
use Rattle.attach_program.specs.declared.status.AttachStatus.{AttachStatus}
use Rattle.attach_program.specs.declared.status.AttachStatus.TheVariants.{ReadFault, WriteFault, WordFault, BadFrame, BadKeys, NoMemory, Flood}
use Rattle.attach_program.specs.Keys.{KnowsKeys}
use Rattle.attach_program.specs.Runs.{Goes, IsRun, Moves, Run, Sight, Turn, door_of, exchanged_in, frames_of, in_door, notes_of, replies_of, told_next, words_of}
use Rattle.attach_program.specs.Serving.{Answers, frames_in, most_frame, most_input}

-- ---- the keys

-- the statuses that reading a file may end with, and what they are here
abbrev pub IsFileEnd : Status → Type 0
IsFileEnd files.ReadFault = Unit {0}
IsFileEnd files.NoMemory = Unit {0}
IsFileEnd (files.Flood limit) = Unit {0}
IsFileEnd status = ⊥

abbrev pub end_of_file : Status → AttachStatus
end_of_file (files.Flood limit) = Flood limit
end_of_file files.NoMemory = NoMemory
end_of_file status = ReadFault

-- lines were refused, of which this is the first bad one, or memory ran out
abbrev pub Refuses : AttachStatus → Option ℕ → Type 0
Refuses (BadKeys line) bad = bad ≡ Some line
Refuses NoMemory bad = Unit {0}
Refuses status bad = ⊥

-- the keys are known, and the agent was given them
pub record Knows (before now : Option (List ℕ)) (agent : Agent) : Type 0 where
  pub keys : History
  pub knows : KnowsKeys before now keys
  pub stands : StandsFor keys agent

-- ---- frames

-- the port's agent was given the keys, and this was exchanged with it since; the port is in this setting
abbrev pub stood : History → List Exchange → Setting → Stood History
stood keys done setting = record { past = keys; done = done; setting = setting }

-- the port is where a run left it, whatever word it is told
abbrev pub PortIs : History → Run → AgentPort Agent → Type 0
PortIs keys [] port = StandsWith StandsBehind (fresh keys 1) [] [] port
PortIs keys (turn ∷ before) port =
    StandsWith StandsBehind (stood keys (exchanged_in before) (told_next before turn.word))
    turn.calls turn.exchanged port

-- a session stands where a run left it
pub record StandsAt (keys : History) (run : Run) (session : Session) : Type 0 where
  pub door : DoorStands (door_of run) session.door
  pub port : PortIs keys run session.port
  pub is : IsRun keys run

-- a frame was answered
pub record Turned (keys : History) (before : Run) (frame word : List ℕ) (session : Session) : Type 0 where
  pub turn : Turn
  pub frame_is : turn.frame ≡ frame
  pub word_is : turn.word ≡ word
  pub stands : StandsAt keys (turn ∷ before) session
  pub said : session.reply ≡ reply_to (door_of before) (in_door turn)

-- the turns of a run were carried out
pub record Served (keys : History) (origin now : Sight) (run : Run) (session : Session) : Type 0 where
  pub stands : StandsAt keys run session
  pub goes : Goes origin now run

-- one more was
pub record ServedMore (keys : History) (origin now : Sight) (before : Run) (frame : List ℕ) (session : Session)
    : Type 0 where
  pub turn : Turn
  pub frame_is : turn.frame ≡ frame
  pub served : Served keys origin now (turn ∷ before) session

-- why one more wasn't: there was no word; memory ran out; or the reply wasn't taken
pub record LacksOne (keys : History) (origin now : Sight) (before : Run) : Type 0 where
  pub is : IsRun keys before
  pub more : List (List ℕ)
  pub one : length more ≤ 1
  pub moves : Moves origin now (words_of before ++ more) (replies_of before) (notes_of before)

pub record LosesOne (keys : History) (origin now : Sight) (before : Run) (frame : List ℕ) : Type 0 where
  pub turn : Turn
  pub frame_is : turn.frame ≡ frame
  pub is : IsRun keys (turn ∷ before)
  pub drew : DrawsAll origin.words now.words (words_of (turn ∷ before))
  pub wrote : GainsFront origin.holds now.holds (replies_of (turn ∷ before))
  pub told : Notes origin.noted now.noted (notes_of (turn ∷ before))

abbrev pub TurnEnds : AttachStatus → History → Sight → Sight → Run → List ℕ → Type 0
TurnEnds WordFault keys origin now before frame = IsRun keys before × Goes origin now before
TurnEnds WriteFault keys origin now before frame = LosesOne keys origin now before frame
TurnEnds NoMemory keys origin now before frame = LacksOne keys origin now before
TurnEnds status keys origin now before frame = ⊥

-- ---- the input

-- some frames of the stream were answered
pub record Handed (keys : History) (origin now : Sight) (stream : List ℕ) (run : Run) (framer : Framing)
    (session : Session) : Type 0 where
  pub cut : HasHandedOut framer stream (frames_of run)
  pub limit : framer.limit ≡ most_frame
  pub served : Served keys origin now run session

-- all whole frames of the stream were answered, and no bad size follows
pub record AllHanded (keys : History) (origin now : Sight) (stream : List ℕ) (framer : Framing) (session : Session)
    : Type 0 where
  pub run : Run
  pub are : frames_of run ≡ frames_in stream
  pub handed : Handed keys origin now stream run framer session
  pub short : front most_frame framer.held ≡ IsShort

-- why not all were answered
pub record MeetsBad (at size : ℕ) (keys : History) (origin now : Sight) (stream : List ℕ) : Type 0 where
  pub place : at ≡ end_of most_frame stream
  pub bad : HasBadSize most_frame stream size
  pub answers : Answers keys (frames_in stream) origin now

pub record MissesWord (keys : History) (origin now : Sight) (stream : List ℕ) : Type 0 where
  pub front : List (List ℕ)
  pub frame : List ℕ
  pub others : List (List ℕ)
  pub parts : frames_in stream ≡ front ++ frame ∷ others
  pub answers : Answers keys front origin now

pub record MissesMemory (keys : History) (origin now : Sight) (stream : List ℕ) : Type 0 where
  pub run : Run
  pub others : List (List ℕ)
  pub parts : frames_in stream ≡ frames_of run ++ others
  pub lacks : LacksOne keys origin now run

pub record MissesReply (keys : History) (origin now : Sight) (stream : List ℕ) : Type 0 where
  pub run : Run
  pub frame : List ℕ
  pub others : List (List ℕ)
  pub parts : frames_in stream ≡ frames_of run ++ frame ∷ others
  pub loses : LosesOne keys origin now run frame

abbrev pub StopsAt : AttachStatus → History → Sight → Sight → List ℕ → Type 0
StopsAt (BadFrame at size) keys origin now stream = MeetsBad at size keys origin now stream
StopsAt WordFault keys origin now stream = MissesWord keys origin now stream
StopsAt NoMemory keys origin now stream = MissesMemory keys origin now stream
StopsAt WriteFault keys origin now stream = MissesReply keys origin now stream
StopsAt status keys origin now stream = ⊥

-- how many bytes a framer has taken
abbrev pub taken_by : Framing → ℕ
taken_by framer = framer.before + length framer.held

-- it can read on: what it holds is no whole frame, and shows no bad size
pub record IsReady (framer : Framing) : Type 0 where
  pub short : front framer.limit framer.held ≡ IsShort
  pub few : taken_by framer ≤ most_input

-- between two reads: all whole frames of what was read were answered
pub record Piped (keys : History) (first next : Option (List ℕ)) (origin now : Sight) (framer : Framing)
    (session : Session) : Type 0 where
  pub stream : List ℕ
  pub read : Consumes first next stream
  pub few : length stream ≤ most_input
  pub handed : AllHanded keys origin now stream framer session
