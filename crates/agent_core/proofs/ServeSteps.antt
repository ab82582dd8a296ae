-- Takes of one connection, one behind the other.
use Rattle.std.proofs.Common.{◌≡◌, ℕ, ◌+◌, suc, List, ◌∷◌, ◌++◌, true, false, sym, ap, subst, ◌∙◌, append_assoc, append-nil, arith}
use Rattle.std.proofs.lemmas.Bool.{false≢true}
use Rattle.agent_history.specs.declared.event.Event.TheVariants.{Take}
use Rattle.agent_history.specs.Histories.{History, answer, has_stopped, is_reply}
use Rattle.agent_core.specs.declared.agent.Agent.{Agent}
use Rattle.agent_core.specs.declared.agent.State.{State}
use Rattle.agent_core.specs.declared.agent.State.TheVariants.{Runs, Stopped}
use Rattle.agent_core.specs.declared.served.TakeEnd.{TakeEnd}
use Rattle.agent_core.specs.declared.served.TakeEnd.TheVariants.{NoRoom}
use Rattle.agent_core.specs.Agents.{StandsBy, StandsFor, gives_in}
use Rattle.agent_core.specs.Serves.{AllGave, EndsSo, TookSo, takes, took}

-- so many takes gave replies, which stand behind what was put out
pub record TookSome (H : History) (conn n : ℕ) (old new : List ℕ) (agent : Agent) : Type 0 where
  pub stands : StandsFor (takes n conn ++ H) agent
  pub gave : AllGave n conn H
  pub out : new ≡ old ++ took n conn H

pub took_none : (H : History) (conn : ℕ) (old : List ℕ) (agent : Agent) → StandsFor H agent → TookSome H conn 0 old old agent
took_none H conn old agent stands = record { stands = stands; gave = tt; out = sym (append-nil old) }

pub took_more : (H : History) (conn n : ℕ) (old mid new : List ℕ) (a b : Agent) → TookSome H conn n old mid a → is_reply (answer (takes n conn ++ H) (Take conn)).0 ≡ true
    → new ≡ mid ++ (answer (takes n conn ++ H) (Take conn)).1 → StandsFor (Take conn ∷ takes n conn ++ H) b → TookSome H conn (n + 1) old new b
took_more H conn n old mid new a b some is more stands =
    let put = (answer (takes n conn ++ H) (Take conn)).1 in
    let next : suc n ≡ n + 1 = omega arith in
    subst (λ (m : ℕ). TookSome H conn m old new b) next (record {
      stands = stands;
      gave = (some.gave, is);
      out = more ∙ ap (λ (t : List ℕ). t ++ put) some.out ∙ append_assoc old (took n conn H) put;
    })

pub took_so : (H : History) (conn n : ℕ) (end : TakeEnd) (old new : List ℕ) (agent : Agent) → TookSome H conn n old new agent → EndsSo end conn (takes n conn ++ H) → TookSo H conn (record { taken = n; end = end }) old new agent
took_so H conn n end old new agent some ends = record { stands = some.stands; gave = some.gave; out = some.out; ends = ends }

-- an agent that has a reply to take hasn't stopped
gives_runs : (H : History) (conn : ℕ) (state : State) → StandsBy H state → gives_in (Take conn) state ≡ true → has_stopped H ≡ false
gives_runs H conn Stopped h gives = absurd (false≢true gives)
gives_runs H conn (Runs r) h gives = h.running

-- there was no memory for the next reply
pub took_short : (H : History) (conn n : ℕ) (old mid new : List ℕ) (a b : Agent) → TookSome H conn n old mid a → gives_in (Take conn) a.state ≡ true → is_reply (answer (takes n conn ++ H) (Take conn)).0 ≡ true
    → new ≡ mid → StandsFor (takes n conn ++ H) b → TookSo H conn (record { taken = n; end = NoRoom }) old new b
took_short H conn n old mid new a b some gives is same stands = record {
  stands = stands;
  gave = some.gave;
  out = same ∙ some.out;
  ends = (gives_runs (takes n conn ++ H) conn a.state some.stands.stands gives, is);
}
