-- What a job of an agent does to its end: what the loop does that it names. A source and a sink go with their job, so
-- of them it is said what they came to. The definitions are the project's own.
use Rattle.std.specs.Prelude.{◌≡◌, ℕ, List, Option}
use Rattle.wire_streams.specs.Causes.{Rose}
use Rattle.wire_streams.specs.Dials.{Dialed}
use Rattle.agent_hub.specs.Submits.{HubSeat}
use Rattle.agent_hub.specs.Asking.{AsksEndSo}
use Rattle.agent_lines.specs.Lining.{CausedBy, LineEndsSo, moment}
use Rattle.agent_lines.specs.declared.ends.LineEnd.{LineEnd}
use Rattle.prompters.specs.Manners.{Manner}
use Rattle.agent_serving.specs.Prompting.{PromptsSo}
use Rattle.agent_serving.specs.declared.job.Job.{Job}
use Rattle.agent_serving.specs.declared.job.Job.TheVariants as jobs
use Rattle.agent_serving.specs.declared.job.JobEnd.{JobEnd}
use Rattle.agent_serving.specs.declared.job.JobEnd.TheVariants as ends

-- the seat of a job
abbrev pub seat_of : {I O : Type 0} → Job I O → HubSeat
seat_of (jobs.Line seat conn source sink) = seat
seat_of (jobs.Asks seat) = seat
seat_of (jobs.Prompts seat conn) = seat

-- What came of the source and the sink of a connection that was served to its end, and of the words, which were told
-- so before and behind it, as was the count of their faults
pub record Served {I O : Type 0} (left : I → Option (List ℕ)) (read_faults : I → ℕ) (holds : O → Option (List ℕ))
    (write_faults : O → ℕ) (seat : HubSeat) (conn : ℕ) (source : I) (sink : O) (after : HubSeat)
    (words later : Option (List (List ℕ))) (lacked lacks : ℕ) (end : LineEnd) : Type 0 where
  pub read : I
  pub written : O
  pub ends : LineEndsSo end conn (moment seat words (left source) (holds sink))
      (moment after later (left read) (holds written))
  pub caused : CausedBy end (Rose (read_faults source) (read_faults read)) (Rose lacked lacks)
      (Rose (write_faults sink) (write_faults written))

-- How a job ended: its end is that of its loop. Before and after stand what the dialer tells and the count of its
-- faults, the words to come and the count of theirs, and the prompters.
abbrev pub EndsSo : {I O : Type 0} → (I → Option (List ℕ)) → (I → ℕ) → (O → Option (List ℕ)) → (O → ℕ) → Job I O
    → HubSeat → Option Dialed → Option Dialed → ℕ → ℕ → Option (List (List ℕ)) → Option (List (List ℕ)) → ℕ → ℕ
    → List Manner → List Manner → JobEnd → Type 0
EndsSo left read_faults holds write_faults (jobs.Line seat conn source sink) after told now failed later words left_over lacked lacks chain behind (ends.Line end) = Served left read_faults holds write_faults seat conn source sink after words left_over lacked lacks end
EndsSo left read_faults holds write_faults (jobs.Asks seat) after told now failed later words left_over lacked lacks chain behind (ends.Asks end) = AsksEndSo end seat after told now failed later
EndsSo left read_faults holds write_faults (jobs.Prompts seat conn) after told now failed later words left_over lacked lacks chain behind (ends.Prompts end) = PromptsSo conn chain behind seat after end
EndsSo left read_faults holds write_faults job after told now failed later words left_over lacked lacks chain behind end = ⊥
