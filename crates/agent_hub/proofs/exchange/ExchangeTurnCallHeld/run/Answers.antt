use Rattle.std.proofs.Common.{refl, subst, sym}
use Rattle.agent_core.specs.Agents.{StandsFor}
use Rattle.agent_hub.proofs.exchange.ExchangeTurnCallHeld.run.Goals as goal

pub returns-clause-stands : goal.returns-clause-stands
returns-clause-stands c = λ history stands. c.take_news-self.ensures _ (c.serve_frames-batch.ensures history (subst (StandsFor history) (sym c.deref_mut-agent.ensures.value) stands)).stands

pub returns-clause-gives : goal.returns-clause-gives
returns-clause-gives c = λ history stands. (refl, (c.serve_frames-batch.ensures history (subst (StandsFor history) (sym c.deref_mut-agent.ensures.value) stands)).handles)
