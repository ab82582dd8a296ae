-- Of the code alone: where a pipe stands between two reads, and what its parts tell each other.
use Rattle.std.specs.Prelude.{◌≡◌, ◌<◌, ◌≤◌, ℕ, ◌+◌, List, [], ◌∷◌, ◌++◌, length, Option, ◌⊎◌, true}
use Rattle.std.specs.Io.KnownBytes.{Consumes}
use Rattle.nine.specs.Streams.{front, IsShort, end_of, HasBadSize}
use Rattle.nine.specs.Framed.{Framing}
use Rattle.nine.specs.Framing.{HasHandedOut}
use Rattle.agent_core.specs.declared.agent.Agent.{Agent}
use Rattle.agent_core.specs.Agents.{StandsFor}
use Rattle.auth_program.specs.declared.status.Status.{Status}
use Rattle.auth_program.specs.declared.status.Status.TheVariants.{NoMemory, WordFault, WriteFault, BadFrame}
use Rattle.factotum_program.specs.declared.pipe.Session.{Session}
use Rattle.factotum_program.specs.Pipe.{Turn, after_turns, all_met, frames_of, most_frame, replies_text}
use Rattle.factotum_program.specs.Sights.{Goes, GoesPart, Sight}
use Rattle.factotum_program.specs.Commands.{most_input, frames_in}
use Rattle.factotum_program.specs.Gathers.{Gathers, GathersPart}

-- some frames of the stream were answered
pub record Handed (origin now : Sight) (gathered stream : List ℕ) (turns : List Turn) (framer : Framing)
    (agent : Agent) : Type 0 where
  pub cut : HasHandedOut framer stream (frames_of turns)
  pub limit : framer.limit ≡ most_frame
  pub stands : StandsFor (after_turns [] turns) agent
  pub goes : Goes origin now turns
  pub met : all_met turns ≡ true
  pub told : Gathers origin.holds now.holds gathered (replies_text turns)

-- all whole frames of the stream were answered, and no bad size follows
pub record AllHanded (origin now : Sight) (gathered stream : List ℕ) (framer : Framing) (agent : Agent) : Type 0 where
  pub turns : List Turn
  pub are : frames_of turns ≡ frames_in stream
  pub handed : Handed origin now gathered stream turns framer agent
  pub short : front most_frame framer.held ≡ IsShort

-- these frames were answered
pub record Told (frames : List (List ℕ)) (origin now : Sight) (gathered : List ℕ) : Type 0 where
  pub turns : List Turn
  pub are : frames_of turns ≡ frames
  pub goes : Goes origin now turns
  pub met : all_met turns ≡ true
  pub told : Gathers origin.holds now.holds gathered (replies_text turns)

-- these frames were answered, but for the last one
pub record ToldPart (status : Status) (frames : List (List ℕ)) (origin now : Sight) (gathered : List ℕ) : Type 0 where
  pub turns : List Turn
  pub last : List Turn
  pub one : length last ≤ 1
  pub are : frames_of (turns ++ last) ≡ frames
  pub goes : GoesPart origin now (turns ++ last)
  pub met : all_met turns ≡ true
  pub told : GathersPart status origin.holds now.holds gathered (replies_text (turns ++ last))

-- why not all were answered: a bad size behind them, no word, or a front of the replies was written or gathered
pub record MeetsBad (at size : ℕ) (origin now : Sight) (gathered stream : List ℕ) : Type 0 where
  pub place : at ≡ end_of most_frame stream
  pub bad : HasBadSize most_frame stream size
  pub told : Told (frames_in stream) origin now gathered

pub record MissesWord (origin now : Sight) (gathered stream : List ℕ) : Type 0 where
  pub front : List (List ℕ)
  pub frame : List ℕ
  pub others : List (List ℕ)
  pub parts : frames_in stream ≡ front ++ frame ∷ others
  pub told : Told front origin now gathered

pub record IsCutShort (status : Status) (origin now : Sight) (gathered stream : List ℕ) : Type 0 where
  pub front : List (List ℕ)
  pub others : List (List ℕ)
  pub parts : frames_in stream ≡ front ++ others
  pub told : ToldPart status front origin now gathered

abbrev pub StopsAt : Sight → Sight → List ℕ → List ℕ → Status → Type 0
StopsAt origin now gathered stream (BadFrame at size) = MeetsBad at size origin now gathered stream
StopsAt origin now gathered stream NoMemory = IsCutShort NoMemory origin now gathered stream
StopsAt origin now gathered stream WordFault = MissesWord origin now gathered stream
StopsAt origin now gathered stream WriteFault = IsCutShort WriteFault origin now gathered stream
StopsAt origin now gathered stream status = ⊥

-- how many bytes a session has taken
abbrev pub taken_by : Session → ℕ
taken_by session = session.framer.before + length session.framer.held

-- a session can read on: what it holds is no whole frame, and shows no bad size
pub record IsReady (session : Session) : Type 0 where
  pub short : front session.framer.limit session.framer.held ≡ IsShort
  pub few : taken_by session ≤ most_input

-- memory ran out, or a write failed
abbrev pub IsCut : Status → Type 0
IsCut status = (status ≡ NoMemory) ⊎ (status ≡ WriteFault)

-- between two reads: all whole frames of what was read were answered, and all replies written
pub record Piped (first next : Option (List ℕ)) (origin now : Sight) (session : Session) : Type 0 where
  pub stream : List ℕ
  pub read : Consumes first next stream
  pub few : length stream ≤ most_input
  pub handed : AllHanded origin now [] stream session.framer session.agent
