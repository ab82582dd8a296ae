-- What a run knows of a network after some acts, and what carrying out a line comes to. This serves proofs alone.
use Rattle.std.specs.Prelude.{◌≡◌, ℕ, ◌<◌, ◌^◌, List, ◌∷◌, length, true, false, is_some, Option, Some, None, Result, Ok, Err}
use Rattle.std.specs.Global.{Vec}
use Rattle.std.specs.Map.{lookup}
use Rattle.std.specs.Str.{bytes_eq}
use Rattle.wire_histories.specs.declared.step.Step.{Step}
use Rattle.world_scripts.specs.Lines.{ScriptLine}
use Rattle.world_scripts.specs.Lines as l
use Rattle.world_scripts.specs.Reading.{line_of}
use Rattle.world_scripts.specs.Scripts.{Numbered}
use Rattle.world_history.specs.Acts.{Act, Started, Got, Given, agent_of, is_node, key_lines, speak_lines, talk_of, talks, was_asked, were_used}
use Rattle.world_history.specs.Acts as a
use Rattle.world_history.specs.Scripts.{judged}
use Rattle.auth_program.specs.declared.cause.ScriptCause.TheVariants.{UnknownConv}
use Rattle.world_history.specs.Talking.{Asks, starts, gets, gives}
use Rattle.world_history.specs.Worlds.{history, messages, requests, steps, steps_by, was_misasked}
use Rattle.world_run.specs.PlayStanding.{IsClosed, IsFree, IsOpen, conv_on}
use Rattle.world_history.specs.Telling.{Tells}
use Rattle.world_run.specs.declared.named_talks.Talk.{Talk}
use Rattle.world_run.specs.Nodes.{NodesAre}
use Rattle.world_run.specs.Nodes as n
use Rattle.world_run.specs.Sessions.{ClientsAre}
use Rattle.world_run.specs.Sessions as s
use Rattle.world_run.specs.declared.found.Found.{Found}
use Rattle.world_run.specs.declared.run.Run.{Run}
use Rattle.world_run.specs.declared.stops.Stop.{Stop}
use Rattle.world_run.specs.declared.stops.Stop.TheVariants as stop

-- ---- what is known by name

abbrev pub nodes_by : List Act → n.View
nodes_by acts = record {
  is = λ name. is_node acts name;
  history = λ name. history acts (agent_of acts name);
  held = λ name. conv_on name (talks acts);
}

abbrev pub sessions_by : List Act → s.View
sessions_by acts = record { requests = λ name. requests acts name; misasked = λ name. was_misasked acts name }

abbrev pub TalkIs : List Act → List ℕ → Option (Option Talk) → Type 0
TalkIs acts conv None = IsFree acts conv
TalkIs acts conv (Some None) = IsClosed acts conv
TalkIs acts conv (Some (Some t)) = IsOpen acts conv t.node t.fid t.call

abbrev pub TalksAre : List Act → List (List ℕ × Option Talk) → Type 0
TalksAre acts talks = (conv : List ℕ) → TalkIs acts conv (lookup (bytes_eq conv) talks)

-- ---- the run

-- it stands for acts, before the lines that are left, and has recorded these steps
pub record StandsWith (left : List Numbered) (acts : List Act) (kept : List Step) (run : Run) : Type 0 where
  pub nodes : NodesAre (nodes_by acts) run.nodes
  pub talks : TalksAre acts run.talks
  pub clients : ClientsAre (sessions_by acts) run.clients
  pub tables : Tells left acts run.tables
  pub recorded : run.recorded ≡ kept
  pub made : run.made ≡ length (a.nodes acts)
  pub keys : run.keys ≡ length (key_lines acts)
  pub speaks : run.speaks ≡ length (speak_lines acts)
  pub asked : run.asked ≡ was_asked acts
  pub used : run.used ≡ were_used acts

abbrev pub Stands : List Numbered → List Act → Run → Type 0
Stands left acts run = StandsWith left acts (steps acts) run

-- ---- a line

-- it was carried out, and its steps are to be recorded
pub record IsDone (left : List Numbered) (acts : List Act) (line : Option ScriptLine) (made_steps : List Step)
    (run : Run) : Type 0 where
  pub act : Act
  pub fits : judged acts line ≡ Ok act
  pub made : made_steps ≡ steps_by (length (messages acts)) acts act
  pub stands : StandsWith left (act ∷ acts) (steps acts) run

abbrev pub Comes : List Numbered → List Act → Option ScriptLine → Result (Vec Step) Stop → Run → Type 0
Comes left acts line (Ok made) run = IsDone left acts line made.items run
Comes left acts line (Err (stop.Refused cause)) run = judged acts line ≡ Err cause
Comes left acts line (Err stop.NoMemory) run = Unit {0}

-- what a run comes to by a text, before the lines that are left
abbrev pub CarriesText : List ℕ → List Numbered → Run → Result (Vec Step) Stop → Run → Type 0
CarriesText text left old result new = (number : ℕ) (acts : List Act)
    → Stands (record { number = number; text = text } ∷ left) acts old → Comes left acts (line_of text) result new

-- and by a line, whatever text it is read off
abbrev pub CarriesBefore : List Numbered → ScriptLine → Run → Result (Vec Step) Stop → Run → Type 0
CarriesBefore left line old result new = (before : Numbered) (acts : List Act)
    → line_of before.text ≡ Some line → Stands (before ∷ left) acts old → Comes left acts (Some line) result new

-- the same whatever lines are left
abbrev pub Carries : ScriptLine → Run → Result (Vec Step) Stop → Run → Type 0
Carries line old result new = (left : List Numbered) → CarriesBefore left line old result new

-- what its parts that are written to an agent are bounded by
abbrev pub IsShort : ScriptLine → Type 0
IsShort (l.Ctl node line) = length line < 2 ^ 30
IsShort (l.Start conv word tuple) = length tuple < 2 ^ 30
IsShort line = Unit {0}

-- ---- a request to a conversation

-- the act that asking it is
abbrev pub act_for : List ℕ → Asks → Act
act_for conv (starts word tuple) = Started conv word tuple
act_for conv gets = Got conv
act_for conv (gives bytes) = Given conv bytes

-- by whatever line it is asked, which is refused where it isn't open, and else is that act
pub record IsAskedBy (acts : List Act) (line : Option ScriptLine) (conv : List ℕ) (what : Asks) : Type 0 where
  pub opened : is_some (talk_of acts conv) ≡ true → judged acts line ≡ Ok (act_for conv what)
  pub closed : is_some (talk_of acts conv) ≡ false → judged acts line ≡ Err UnknownConv

abbrev pub Asked : List ℕ → Asks → Run → Result (Vec Step) Stop → Run → Type 0
Asked conv what old result new = (before : Numbered) (left : List Numbered) (acts : List Act)
    → IsAskedBy acts (line_of before.text) conv what → Stands (before ∷ left) acts old
    → Comes left acts (line_of before.text) result new

-- the same of one that was looked up
abbrev pub AskedIt : Found → List ℕ → Asks → Run → Result (Vec Step) Stop → Run → Type 0
AskedIt found conv what old result new = (before : Numbered) (left : List Numbered) (acts : List Act)
    → IsOpen acts conv found.node found.fid found.call → judged acts (line_of before.text) ≡ Ok (act_for conv what)
    → Stands (before ∷ left) acts old → Comes left acts (line_of before.text) result new
