-- One turn of a seat, and what it adds to the seat's own entries.
use Rattle.std.proofs.Common.{◌≡◌, ℕ, List, ◌∷◌, ◌++◌, true, sym, ap, ◌∙◌, inl, inr, true≢false}
use Rattle.std.specs.Prelude.{Result, Ok, Err, IsOk, IfOk, OnOk, OnErr}
use Rattle.std.proofs.lemmas.Bool.{cases_Bool}
use Rattle.wire_base.specs.declared.bytes.NoMemory.{NoMemory}
use Rattle.turn_lock.specs.Fronts.{among, own, made}
use Rattle.turn_lock.specs.Seats.{front, numbers, Turned}
use Rattle.agent_history.specs.declared.event.Event.{Event}
use Rattle.agent_history.specs.declared.event.StepAnswer.{StepAnswer}
use Rattle.agent_history.specs.Histories.{History}
use Rattle.agent_core.specs.declared.agent.Agent.{Agent}
use Rattle.agent_core.specs.Events.{Answers}
use Rattle.agent_core.specs.Agents.{StandsFor, TakesNone}
use Rattle.agent_hub.specs.Submits.{HubSeat, IsAnswered, IsSubmitted, entered, takes_memory}
use Rattle.agent_hub.proofs.MemoryLemmas.{takes_none}
use Rattle.agent_hub.proofs.FrontFacts.{own_behind, own_made}

pub submitted : (event : Event) (reply : Result StepAnswer NoMemory) (old new : List ℕ) (before after : HubSeat) (n : ℕ) → among (numbers before) n ≡ true
    → Turned (entered event reply) (λ history. IsAnswered history event reply old new) before after → IsSubmitted event reply old new before after
submitted event reply old new before after n is_mine t = record {
  others = t.others;
  goes_on = t.adds;
  of_others = t.of_others;
  own_entries = ap (own (numbers before)) t.adds ∙ own_made (numbers before) (entered event reply) (t.others ++ front before) n is_mine
      ∙ ap (λ z. made (numbers before) (entered event reply) ++ z) (own_behind (numbers before) t.others (front before) t.of_others);
  same_numbers = t.same_numbers;
  answered = t.answers;
}

-- the agent stands for the event that was entered, and for what was before
pub stands_on : (event : Event) (old new : Agent) (reply : Result StepAnswer NoMemory) → OnOk reply ((H : History) → StandsFor H old → StandsFor (event ∷ H) new) → OnErr reply ((H : History) → StandsFor H old → StandsFor H new)
    → (H : History) → StandsFor H old → StandsFor (entered event reply ++ H) new
stands_on event old new (Ok a) ok err = ok
stands_on event old new (Err e) ok err = err

-- and it answered so
pub answers : (event : Event) (agent : Agent) (reply : Result StepAnswer NoMemory) (old new : List ℕ) → IfOk reply (λ a. (H : History) → StandsFor H agent → Answers H event a old new) → OnErr reply (new ≡ old) → (TakesNone event agent → IsOk reply)
    → (H : History) → StandsFor H agent → IsAnswered H event reply old new
answers event agent (Ok a) old new ok err free H stands = ok H stands
answers event agent (Err e) old new ok err free H stands = elim (cases_Bool (takes_memory H event)) [
  | inl short ↦ (short, err)
  | inr none ↦ absurd (true≢false (sym (free (takes_none H event agent stands none))))
]
