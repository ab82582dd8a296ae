-- What driving an agent comes to, of an agent that stood for a history.
use Rattle.std.specs.Prelude.{◌≡◌, ℕ, List, [], ◌∷◌, ◌++◌, map, not, Bool}
use Rattle.nine.specs.declared.message.RMsg.{RMsg}
use Rattle.nine.specs.Messages.{r_frame}
use Rattle.agent_history.specs.declared.event.Event.{Event}
use Rattle.agent_history.specs.declared.event.Event.TheVariants.{Take, TakeAsk}
use Rattle.agent_history.specs.Replies.{untaken}
use Rattle.agent_history.specs.Histories.{History, answer, deeds, is_reply}
use Rattle.agent_core.specs.declared.agent.Agent.{Agent}
use Rattle.agent_core.specs.Agents.{StandsFor}
use Rattle.world_history.specs.declared.question.Question.{Question}
use Rattle.world_history.specs.Driving.{all_taken, ask_up, asked_up, asks_of, drive, first_left, hands_out, is_refused, question_in, questions_to, replies_to, taken_up, takes_of}
use Rattle.agent_turns.specs.declared.takes.Driven.{Driven}

-- the frames of replies
abbrev pub frames_of : List RMsg → List (List ℕ)
frames_of replies = map r_frame replies

-- one take was made; where there was a reply its frame stands behind the others
pub record TakesOne (history : History) (more : Bool) (agent : Agent) (old new : List (List ℕ)) : Type 0 where
  pub more_is : more ≡ is_reply (answer history (Take 0)).0
  pub stands : StandsFor (Take 0 ∷ history) agent
  pub frames : new ≡ old ++ (elim more [
    | Bool.true ↦ frames_of
        (first_left (untaken (deeds history) 0))
    | Bool.false ↦ []
  ])

-- all takes were made
pub record TakesAll (history : History) (agent : Agent) (made : List (List ℕ)) : Type 0 where
  pub stands : StandsFor (all_taken history) agent
  pub frames : made ≡ frames_of (taken_up (takes_of history) history)

-- one take of questions was made; where there was a question it stands behind the others
pub record AsksOne (history : History) (more : Bool) (agent : Agent) (old new : List Question) : Type 0 where
  pub more_is : more ≡ hands_out (answer history TakeAsk).0
  pub stands : StandsFor (TakeAsk ∷ history) agent
  pub asked : new ≡ old ++ question_in (answer history TakeAsk)

-- all takes of questions were made
pub record AsksAll (history : History) (agent : Agent) (made : List Question) : Type 0 where
  pub stands : StandsFor (ask_up (asks_of history) history) agent
  pub asked : made ≡ asked_up (asks_of history) history

-- an event happened, and all takes were made
pub record Drives (event : Event) (history : History) (agent : Agent) (driven : Driven) : Type 0 where
  pub stands : StandsFor (drive event history) agent
  pub replies : driven.replies ≡ frames_of (replies_to event history)
  pub questions : driven.questions ≡ questions_to event history

-- an event happened, and the agent let it or refused it
pub record Meets (event : Event) (history : History) (lets : Bool) (agent : Agent) : Type 0 where
  pub stands : StandsFor (drive event history) agent
  pub told : lets ≡ not (is_refused (replies_to event history))
