-- What an answer of the authentication server, or its absence, does to an agent of which all was taken. It serves
-- proofs alone.
use Rattle.std.specs.Prelude.{◌≡◌, ℕ, List, ◌==◌, false, not, Some}
use Rattle.roles.specs.Talks.{Call as Move, heard, unheard}
use Rattle.agent_history.specs.declared.event.Event.{Event}
use Rattle.agent_history.specs.declared.event.Event.TheVariants.{Answer, NoAnswer}
use Rattle.agent_history.specs.Conversations.{asker, conv_of}
use Rattle.agent_history.specs.Histories.{History, deeds}
use Rattle.world_history.specs.Driving.{drive, questions_to}
use Rattle.world_promises.specs.Agents.{AnswerDoes, Stays}
use Rattle.driven_agents.specs.Idle.{AreOf, IsIdle, KeepsAskers, Runs, SameSeats}

pub record Answered (number fid : ℕ) (event : Event) (call : Move) (h : History) : Type 0 where
  pub does : AnswerDoes number fid event call h
  pub idle : IsIdle (drive event h)
  pub seats : SameSeats h (drive event h)
  pub keeps : KeepsAskers (λ n. not (n == number)) h (drive event h)
  pub raises : AreOf number (questions_to event h) (drive event h)

-- the conversation whose question is answered goes on by the answer
abbrev pub AnswersDo : Type 0
AnswersDo = (number fid call : ℕ) (bytes : List ℕ) (h : History) → IsIdle h → conv_of (deeds h) 0 fid ≡ Some number
    → asker (deeds h) call ≡ Some number → Runs (drive (Answer call bytes) h)
    → Answered number fid (Answer call bytes) (heard bytes) h

abbrev pub AbsencesDo : Type 0
AbsencesDo = (number fid call : ℕ) (h : History) → IsIdle h → conv_of (deeds h) 0 fid ≡ Some number
    → asker (deeds h) call ≡ Some number → Runs (drive (NoAnswer call) h)
    → Answered number fid (NoAnswer call) unheard h

-- any other one stays as it is
abbrev pub AnswersLeave : Type 0
AnswersLeave = (other number call : ℕ) (bytes : List ℕ) (h : History) → asker (deeds h) call ≡ Some number
    → (other == number) ≡ false → Stays other (Answer call bytes) h

abbrev pub AbsencesLeave : Type 0
AbsencesLeave = (other number call : ℕ) (h : History) → asker (deeds h) call ≡ Some number → (other == number) ≡ false
    → Stays other (NoAnswer call) h
