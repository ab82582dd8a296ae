-- An agent of one's own, with which exchanges were made: it is asked by nobody else meanwhile, so that each request is
-- followed at once by the take of its reply.
use Rattle.std.specs.Prelude.{◌≡◌, ℕ, List, [], ◌∷◌}
use Rattle.agent_history.specs.Histories.{History}
use Rattle.agent_core.specs.declared.agent.Agent.{Agent}
use Rattle.agent_core.specs.Agents.{StandsFor}
use Rattle.door_ports.specs.declared.reply.Reply.{Reply}
use Rattle.door_ports.specs.Exchanges.{Exchange, exchanged, reply_to}

-- the history behind some exchanges
abbrev pub behind : History → List Exchange → History
behind past [] = past
behind past (e ∷ done) = exchanged e.conn e.frame e.word (behind past done)

-- each was replied to as the agent replies behind those before it
abbrev pub AreReplied : History → List Exchange → Type 0
AreReplied past [] = Unit {0}
AreReplied past (e ∷ done) =
    (e.reply ≡ reply_to e.conn e.frame e.word (behind past done)) × AreReplied past done

-- these exchanges were made with it since that history
pub record StandsBehind (past : History) (done : List Exchange) (agent : Agent) : Type 0 where
  pub stands : StandsFor (behind past done) agent
  pub replied : AreReplied past done

-- ---- of the code alone: a frame came with a word, and its reply was taken

pub record Exchanges (conn : ℕ) (frame word : List ℕ) (H : History) (reply : Reply) (agent : Agent) : Type 0 where
  pub stands : StandsFor (exchanged conn frame word H) agent
  pub told : reply ≡ reply_to conn frame word H
