use Rattle.std.proofs.Common.{refl, subst, sym}
use Rattle.agent_core.specs.Agents.{StandsFor}
use Rattle.agent_hub.proofs.SubmitLemmas.{answers, stands_on}
use Rattle.agent_hub.proofs.hub.SubmitTurnCallHeld.run.Goals as goal

pub returns-clause-stands : goal.returns-clause-stands
returns-clause-stands c = λ H stands. c.take_news-self.ensures _ (stands_on c.args.self.now.event.now c.deref_mut-agent.result.now c.step-answer.new.self c.step-answer.result c.step-answer.ensures.stands c.step-answer.ensures.err_stands H (subst (StandsFor H) (sym c.deref_mut-agent.ensures.value) stands))

pub returns-clause-gives : goal.returns-clause-gives
returns-clause-gives c = λ H stands. (refl, answers c.args.self.now.event.now c.deref_mut-agent.result.now c.step-answer.result c.args.self.now.out.now c.step-answer.new.out c.step-answer.ensures.answer c.step-answer.ensures.err_out c.step-answer.ensures.takes_none H (subst (StandsFor H) (sym c.deref_mut-agent.ensures.value) stands))
