-- What doing something to an agent comes to, of an agent that stood for a history.
use Rattle.std.specs.Prelude.{◌≡◌, ℕ, ◌≤◌, ◌<◌, ◌^◌, ◌+◌, List, [], ◌∷◌, ◌++◌, length, Bool, true, false, not, ◌&&◌, is_some, Option, Some, None, if◌then◌else◌}
use Rattle.roles.specs.declared.need.Outcome.{Outcome}
use Rattle.agent_history.specs.declared.event.Event.{Event}
use Rattle.agent_history.specs.Histories.{History}
use Rattle.agent_core.specs.declared.agent.Agent.{Agent}
use Rattle.agent_core.specs.Agents.{StandsFor}
use Rattle.wire_histories.specs.declared.step.Step.{Step}
use Rattle.wire_histories.specs.declared.step.Step.TheVariants.{In}
use Rattle.world_history.specs.declared.question.Question.{Question}
use Rattle.world_history.specs.Driving.{drive, questions_to, replies_to}
use Rattle.world_history.specs.Talking.{ask_steps, breaks, end_steps, outcome_in, request_text, start_step}
use Rattle.world_history.specs.Talking as talk
use Rattle.world_history.specs.Turns as does
use Rattle.world_history.specs.Worlds.{last_call}
use Rattle.agent_turns.specs.Drives.{frames_of}
use Rattle.agent_turns.specs.Frames.{all_frame_steps, are_taken}
use Rattle.agent_turns.specs.declared.following.Came.{Came}
use Rattle.agent_turns.specs.declared.turns.Asks.{Asks}
use Rattle.agent_turns.specs.declared.turns.Asks.TheVariants.{Start, Get, Give}
use Rattle.agent_turns.specs.declared.turns.Turn.{Turn}
use Rattle.agent_turns.specs.declared.turns.Turn.TheVariants.{Tell, Ask, Hear, Miss, Close}
use Rattle.agent_turns.specs.declared.turns.Turned.{Turned}

-- ---- what the code says, in the words of the definitions

abbrev pub said_asks : Asks → talk.Asks
said_asks (Start word tuple) = talk.starts word tuple.now
said_asks Get = talk.gets
said_asks (Give bytes) = talk.gives bytes.now

abbrev pub said_turn : Turn → does.Turn
said_turn (Tell node line) = does.tells node.now line.now
said_turn (Ask conv fid what) = does.asks conv.now fid (said_asks what)
said_turn (Hear conv fid call bytes) = does.hears conv.now fid call bytes.now
said_turn (Miss conv fid call) = does.misses conv.now fid call
said_turn (Close conv fid) = does.closes conv.now fid

-- an answer isn't too long, and what is written isn't for a frame
abbrev pub IsTurn : Turn → Type 0
IsTurn (Tell node line) = length line.now < 2 ^ 31
IsTurn (Ask conv fid what) = length (request_text (said_asks what)) < 2 ^ 31
IsTurn (Hear conv fid call bytes) = length bytes.now ≤ 160
IsTurn (Miss conv fid call) = Unit {0}
IsTurn (Close conv fid) = Unit {0}

-- ---- what came

-- an event came, and this of it
pub record Comes (fid : ℕ) (event : Event) (history : History) (agent : Agent) (came : Came) : Type 0 where
  pub stands : StandsFor (drive event history) agent
  pub replies : came.driven.replies ≡ frames_of (replies_to event history)
  pub questions : came.driven.questions ≡ questions_to event history
  pub before : came.before ≡ outcome_in fid history
  pub now : came.now ≡ outcome_in fid (drive event history)

-- the steps of what came, its replies by their frames
abbrev pub follow : ℕ → List ℕ → Came → List Step
follow number conv c =
    ask_steps number conv c.driven.questions
    ++ (end_steps conv c.before c.now
    ++ all_frame_steps (number + length c.driven.questions) conv (breaks c.before c.now) c.driven.replies)

-- the step of a request itself
abbrev pub own : List ℕ → talk.Asks → Came → List Step
own conv (talk.starts word tuple) c =
    if not (is_some c.before) && is_some c.now then start_step conv word tuple ∷ []
    else []
own conv talk.gets c = []
own conv (talk.gives bytes) c = if are_taken c.driven.replies then In conv bytes ∷ [] else []

-- something was done
pub record Turns (number : ℕ) (turn : does.Turn) (history : History) (agent : Agent) (turned : Turned) : Type 0 where
  pub stands : StandsFor (does.after turn history) agent
  pub steps : turned.steps.items ≡ does.turn_steps number turn history
  pub call : turned.call ≡ last_call (does.turn_questions turn history) None
