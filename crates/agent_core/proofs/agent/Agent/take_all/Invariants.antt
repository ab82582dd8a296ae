use Rattle.agent_history.specs.Histories.{History}
use Rattle.agent_core.specs.Agents.{StandsFor, kept_replies}
use Rattle.agent_core.proofs.ServeSteps.{TookSome}
use Rattle.agent_core.proofs.agent.Agent.take_all.Given as goal

abbrev pub invariant-loop-self : goal.invariant-loop-self
invariant-loop-self l = (H : History) → StandsFor H l.fn.self → TookSome H l.fn.conn l.taken l.fn.out l.out l.self

abbrev pub decreases-loop-self : goal.decreases-loop-self
decreases-loop-self l = kept_replies l.self l.fn.conn
