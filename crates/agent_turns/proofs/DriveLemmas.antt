-- An event and all takes that follow it.
use Rattle.std.proofs.Common.{◌∷◌, List, ℕ}
use Rattle.agent_history.specs.declared.event.Event.{Event}
use Rattle.agent_history.specs.Histories.{History}
use Rattle.agent_core.specs.declared.agent.Agent.{Agent}
use Rattle.world_history.specs.declared.question.Question.{Question}
use Rattle.world_history.specs.Driving.{all_taken, drive, questions_to, replies_to}
use Rattle.agent_turns.specs.Drives.{AsksAll, Drives, TakesAll}

pub driven : (event : Event) (H : History) (mid new : Agent) (replies : List (List ℕ)) (questions : List Question) → TakesAll (event ∷ H) mid replies → AsksAll (all_taken (event ∷ H)) new questions → Drives event H new (record { replies = replies; questions = questions })
unfolding drive replies_to questions_to
driven event H mid new replies questions t a = record { stands = a.stands; replies = t.frames; questions = a.asked }
