-- What a take of a connection gives, by the answer of its step.
use Rattle.std.proofs.Common.{◌≡◌, ℕ, List, [], ◌∷◌, ◌++◌, Bool, true, false, Option, Some, None, refl, sym, ap, subst, ◌∙◌, ◌⊎◌, inl, inr}
use Rattle.std.specs.Prelude.{if◌then◌else◌}
use Rattle.nine.specs.declared.message.RMsg.{RMsg}
use Rattle.agent_history.specs.declared.event.Event.TheVariants.{Request, Take}
use Rattle.agent_history.specs.declared.event.StepAnswer.{StepAnswer}
use Rattle.agent_history.specs.declared.event.StepAnswer.TheVariants as a
use Rattle.agent_history.specs.Deeds.{is_gone}
use Rattle.agent_history.specs.Replies.{untaken}
use Rattle.agent_history.specs.Histories.{Answer, History, deeds, first_reply}
use Rattle.agent_core.specs.declared.agent.Agent.{Agent}
use Rattle.agent_core.specs.Agents.{StandsFor}
use Rattle.agent_core.specs.Events.{Answers}
use Rattle.door_ports.specs.declared.reply.Reply.{Reply}
use Rattle.door_ports.specs.declared.reply.Reply.TheVariants.{Gone}
use Rattle.door_ports.specs.Agents.{Exchanges, StandsBehind, behind}
use Rattle.door_ports.specs.Exchanges.{Exchange, exchange, exchanged, first_told}
use Rattle.door_ports.specs.Hubs.{Tells}
use Rattle.door_ports.specs.Replies.{silence_of, told_in}
use Rattle.door_ports.proofs.FrameLemmas.{told_frame}

-- what is answered, and what is told
abbrev pub answer_by : Bool → List RMsg → Answer
answer_by gone ms = if gone then (a.Gone, []) else first_reply ms

abbrev pub told : Bool → List RMsg → Reply
told gone ms = if gone then Gone else first_told ms

read : (gone : Bool) (ms : List RMsg) (out : List ℕ) → (answer_by gone ms).0 ≡ a.Reply → out ≡ (answer_by gone ms).1 → told_in out ≡ told gone ms
read true ms out is e = absurd cc
read false [] out is e = absurd cc
read false (m ∷ ms) out is e = told_frame m out e

silent : (gone : Bool) (ms : List RMsg) (x : StepAnswer) → x ≡ (answer_by gone ms).0 → (x ≡ a.Reply → ⊥) → silence_of x ≡ told gone ms
silent true ms x is none = ap silence_of is
silent false [] x is none = ap silence_of is
silent false (m ∷ ms) x is none = absurd (none is)

pub exchanged_reply : (conn : ℕ) (frame word : List ℕ) (H : History) (x : StepAnswer) (old new out : List ℕ) (reply : Reply) (agent : Agent)
    → Answers (Request conn frame word ∷ H) (Take conn) x old new → x ≡ a.Reply → old ≡ [] → out ≡ new → reply ≡ told_in out
    → StandsFor (exchanged conn frame word H) agent → Exchanges conn frame word H reply agent
exchanged_reply conn frame word H x old new out reply agent is one none same tells stands =
    let K : History = Request conn frame word ∷ H in
    let gone = is_gone (deeds K) conn in
    let ms = untaken (deeds K) conn in
    record {
      stands = stands;
      told = tells ∙ ap told_in same ∙ read gone ms new (sym is.answer ∙ one) (is.out ∙ ap (λ (l : List ℕ). l ++ (answer_by gone ms).1) none);
    }

pub exchanged_none : (conn : ℕ) (frame word : List ℕ) (H : History) (x : StepAnswer) (old new : List ℕ) (reply : Reply) (agent : Agent)
    → Answers (Request conn frame word ∷ H) (Take conn) x old new → (x ≡ a.Reply → ⊥) → reply ≡ silence_of x
    → StandsFor (exchanged conn frame word H) agent → Exchanges conn frame word H reply agent
exchanged_none conn frame word H x old new reply agent is none tells stands =
    let K : History = Request conn frame word ∷ H in
    record { stands = stands; told = tells ∙ silent (is_gone (deeds K) conn) (untaken (deeds K) conn) x is.answer none }

-- an agent of one's own, with one exchange more
pub one_behind : (past : History) (done : List Exchange) (conn : ℕ) (frame word : List ℕ) (reply : Reply) (old new : Agent) → StandsBehind past done old → Exchanges conn frame word (behind past done) reply new
    → StandsBehind past (exchange conn frame word reply ∷ done) new
one_behind past done conn frame word reply old new s e = record { stands = e.stands; replied = (e.told, s.replied) }

-- a take found the oldest reply or the end of the connection, or it found none yet
pub found_so : (gone : Bool) (ms : List RMsg) (x : StepAnswer) (taken : List ℕ) (found : Option Reply) → x ≡ (answer_by gone ms).0 → taken ≡ (answer_by gone ms).1 → Tells x taken found
    → (found ≡ Some (told gone ms)) ⊎ ((found ≡ None) × ((answer_by gone ms).0 ≡ a.NoReply))
found_so true ms x taken found is out tells = inl (subst (λ (y : StepAnswer). Tells y taken found) is tells)
found_so false [] x taken found is out tells = inr (subst (λ (y : StepAnswer). Tells y taken found) is tells, refl)
found_so false (m ∷ ms) x taken found is out tells = inl (subst (λ (y : StepAnswer). Tells y taken found) is tells ∙ ap Some (told_frame m taken out))
