-- What is done to one agent of a network: what its history is then, what is recorded, and the questions that come of
-- it.
use Rattle.std.specs.Prelude.{ℕ, List, [], ◌∷◌, false}
use Rattle.std.specs.List.{flat_map}
use Rattle.nine.specs.declared.message.RMsg.{RMsg}
use Rattle.nine.specs.declared.message.RBody.{RBody}
use Rattle.nine.specs.declared.message.RBody.TheVariants as r
use Rattle.agent_history.specs.declared.event.Event.TheVariants.{NoAnswer}
use Rattle.agent_history.specs.declared.event.Event.TheVariants as events
use Rattle.agent_history.specs.Histories.{History}
use Rattle.wire_histories.specs.declared.step.Step.{Step}
use Rattle.wire_histories.specs.declared.step.Step.TheVariants as s
use Rattle.world_history.specs.declared.question.Question.{Question}
use Rattle.world_history.specs.Driving.{clunks, drive, opened, questions_to, replies_to, told, writes}
use Rattle.world_history.specs.Talking.{Asks, all_reply_steps, came, following, request_questions, request_steps, requested}

pub data Turn : Type 0 where
  -- a line is written to the ctl of a node
  tells : (node line : List ℕ) → Turn
  -- a fid opens rpc
  lets_open : (fid : ℕ) → Turn
  -- the conversation that a fid has open is asked something
  asks : (conv : List ℕ) (fid : ℕ) (what : Asks) → Turn
  -- the authentication server's answer to its question of a number, or that there is none
  hears : (conv : List ℕ) (fid call : ℕ) (bytes : List ℕ) → Turn
  misses : (conv : List ℕ) (fid call : ℕ) → Turn
  -- it is closed
  closes : (conv : List ℕ) (fid : ℕ) → Turn

-- the history of the agent then
unfoldable pub after : Turn → History → History
after (tells node line) h = told line h
after (lets_open fid) h = opened fid h
after (asks conv fid what) h = requested fid what h
after (hears conv fid call bytes) h = drive (events.Answer call bytes) h
after (misses conv fid call) h = drive (NoAnswer call) h
after (closes conv fid) h = drive (clunks fid) h

-- a line that ctl refuses
abbrev pub refused_by : List ℕ → RBody → List Step
refused_by node (r.Error text) = s.Refused node text ∷ []
refused_by node body = []

abbrev pub told_steps : List ℕ → List RMsg → List Step
told_steps node replies = flat_map (λ m. refused_by node m.body) replies

-- the steps, from this message on
unfoldable pub turn_steps : ℕ → Turn → History → List Step
turn_steps number (tells node line) h = told_steps node (replies_to (writes 1 line) h)
turn_steps number (lets_open fid) h = []
turn_steps number (asks conv fid what) h = request_steps number conv fid what h
turn_steps number (hears conv fid call bytes) h =
    s.Heard conv bytes ∷ following number conv (came fid (events.Answer call bytes) h)
turn_steps number (misses conv fid call) h = s.Unheard conv ∷ following number conv (came fid (NoAnswer call) h)
turn_steps number (closes conv fid) h = all_reply_steps number conv false (replies_to (clunks fid) h)

-- the questions of the conversation
unfoldable pub turn_questions : Turn → History → List Question
turn_questions (tells node line) h = []
turn_questions (lets_open fid) h = []
turn_questions (asks conv fid what) h = request_questions fid what h
turn_questions (hears conv fid call bytes) h = questions_to (events.Answer call bytes) h
turn_questions (misses conv fid call) h = questions_to (NoAnswer call) h
turn_questions (closes conv fid) h = []
