use Rattle.std.proofs.Common.{subst}
use Rattle.agent_history.specs.Histories.{deeds}
use Rattle.agent_core.specs.Events.{AnswersAfter}
use Rattle.agent_rows.proofs.carrying.enter.Goals as goal

pub returns-in-Ok-step-clause-answer : goal.returns-in-Ok-step-clause-answer
returns-in-Ok-step-clause-answer c = λ h stands.
    subst (λ before. AnswersAfter (deeds h) c.args.event.now c.in-Ok-step.answer before c.step-in-Err.new.out) c.in-Err.ensures.err_out
    (c.in-Ok-step.ensures.answer h (c.in-Err.ensures.err_stands h stands))

pub returns-in-Ok-step-clause-stands : goal.returns-in-Ok-step-clause-stands
returns-in-Ok-step-clause-stands c = λ h stands. c.in-Ok-step.ensures.stands h (c.in-Err.ensures.err_stands h stands)
