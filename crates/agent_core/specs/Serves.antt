-- What takes of one connection add to a history, and what they put out. Histories are newest first.
use Rattle.std.specs.Prelude.{◌≡◌, ℕ, zero, suc, List, [], ◌∷◌, ◌++◌, true, false}
use Rattle.agent_history.specs.declared.event.Event.{Event}
use Rattle.agent_history.specs.declared.event.Event.TheVariants.{Take}
use Rattle.agent_history.specs.Histories.{History, answer, has_stopped, is_reply}
use Rattle.agent_core.specs.declared.agent.Agent.{Agent}
use Rattle.agent_core.specs.declared.served.Served.{Served}
use Rattle.agent_core.specs.declared.served.TakeEnd.{TakeEnd}
use Rattle.agent_core.specs.declared.served.TakeEnd.TheVariants.{NoneLeft, NoRoom, Stopped}
use Rattle.agent_core.specs.Agents.{StandsFor}

-- so many takes of a connection
abbrev pub takes : ℕ → ℕ → List Event
takes zero conn = []
takes (suc n) conn = Take conn ∷ takes n conn

-- what they put out behind a history, the first of them first
abbrev pub took : ℕ → ℕ → History → List ℕ
took zero conn H = []
took (suc n) conn H = took n conn H ++ (answer (takes n conn ++ H) (Take conn)).1

-- each of them gave a reply
abbrev pub AllGave : ℕ → ℕ → History → Type 0
AllGave zero conn H = Unit {0}
AllGave (suc n) conn H = AllGave n conn H × (is_reply (answer (takes n conn ++ H) (Take conn)).0 ≡ true)

-- why no more were made: none is left, or the agent stopped; else memory was short for the one that is left
abbrev pub EndsSo : TakeEnd → ℕ → History → Type 0
EndsSo NoneLeft conn H = (has_stopped H ≡ false) × (is_reply (answer H (Take conn)).0 ≡ false)
EndsSo NoRoom conn H = (has_stopped H ≡ false) × (is_reply (answer H (Take conn)).0 ≡ true)
EndsSo Stopped conn H = has_stopped H ≡ true

-- the replies of a connection that wait were taken behind a history, and put behind what was put out before
pub record TookSo (H : History) (conn : ℕ) (served : Served) (old new : List ℕ) (agent : Agent) : Type 0 where
  pub stands : StandsFor (takes served.taken conn ++ H) agent
  pub gave : AllGave served.taken conn H
  pub out : new ≡ old ++ took served.taken conn H
  pub ends : EndsSo served.end conn (takes served.taken conn ++ H)
