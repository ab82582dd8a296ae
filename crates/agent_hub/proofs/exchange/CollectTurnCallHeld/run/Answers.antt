use Rattle.std.proofs.Common.{subst, sym}
use Rattle.agent_core.specs.Agents.{StandsFor}
use Rattle.agent_hub.proofs.exchange.CollectTurnCallHeld.run.Goals as goal

pub returns-clause-stands : goal.returns-clause-stands
returns-clause-stands c = λ history stands. c.take_news-self.ensures _ (c.take_until-collected.ensures history (subst (StandsFor history) (sym c.deref_mut-agent.ensures.value) stands)).stands
