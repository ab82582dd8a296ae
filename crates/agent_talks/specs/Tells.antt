-- What a read is told, and what this does.
use Rattle.std.specs.Prelude.{◌≡◌, ◌≤◌, ℕ, List, length, true, Option, Some, None, codes, option_map}
use Rattle.nine.specs.declared.message.RBody.{RBody}
use Rattle.nine.specs.declared.message.RBody.TheVariants as r
use Rattle.talks.specs.RpcAnswers.{answer_text}
use Rattle.talks.specs.declared.answer.RpcAnswer.{RpcAnswer}
use Rattle.talks.specs.Standings.{Phase, Resting, Waiting, Seeking, OnConfirm, OnNeedkey, OnServer, Kept}
use Rattle.conversations.specs.declared.conversation.Conversation.{Conversation}
use Rattle.conversations.specs.Fits.{answer_held}
use Rattle.conversations.specs.Shown.{answer_in}
use Rattle.agent_history.specs.Deeds.{Deed}
use Rattle.agent_history.specs.Conversations.{standing_of, then_took, told}
use Rattle.agent_talks.specs.declared.tell.Told.{Told}
use Rattle.agent_talks.specs.declared.tell.Told.TheVariants as t
use Rattle.agent_talks.specs.declared.held.Talks.{Talks}
use Rattle.agent_talks.specs.Kept.{kept_at}
use Rattle.agent_talks.specs.Speaks.{Speak, stands}

-- the reply that tells it
abbrev pub told_body : Told → RBody
told_body (t.Answer answer) = r.Read (answer_text answer)
told_body t.TooSmall = r.Error (codes "read too small")

-- in this phase a read that may hold so many bytes is told the answer, if one is there; else it is told nothing, and
-- nothing has changed. What is kept fits the deeds then
abbrev pub TellsBy : (List Deed → Type 0) → Phase → List Deed → ℕ → ℕ → Option Told → Type 0
TellsBy fits (Kept answer) done conv count result =
    (option_map told_body result ≡ Some (told count answer)) × fits (then_took conv count answer done)
TellsBy fits Resting done conv count result = (result ≡ None) × fits done
TellsBy fits (Waiting request) done conv count result = (result ≡ None) × fits done
TellsBy fits Seeking done conv count result = (result ≡ None) × fits done
TellsBy fits (OnConfirm serial) done conv count result = (result ≡ None) × fits done
TellsBy fits OnNeedkey done conv count result = (result ≡ None) × fits done
TellsBy fits OnServer done conv count result = (result ≡ None) × fits done

abbrev pub Tells : Phase → List Deed → Talks → ℕ → ℕ → Option Told → Type 0
Tells p done new conv count result = TellsBy (λ d. Speak d new) p done conv count result

-- of the code alone: whatever deeds the conversations are those of, this holds of the answer of one that stands
abbrev pub ShowsAnswer : Talks → ℕ → (Option RpcAnswer → Type 0) → Type 0
ShowsAnswer t conv P = (done : List Deed) → stands done conv ≡ true → Speak done t
    → P (answer_in (standing_of done conv).phase)

-- the answer that the conversation of a number keeps
abbrev pub answer_kept : Option Conversation → Option RpcAnswer
answer_kept None = None
answer_kept (Some c) = answer_held c

abbrev pub answer_at : Talks → ℕ → Option RpcAnswer
answer_at t conv = answer_kept (kept_at t conv)

-- an answer that is told has at most so many bytes
abbrev pub IsShort : ℕ → Told → Type 0
IsShort count (t.Answer answer) = length (answer_text answer) ≤ count
IsShort count t.TooSmall = Unit {0}
