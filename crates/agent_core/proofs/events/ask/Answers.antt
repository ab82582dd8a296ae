use Rattle.std.proofs.Common.{ℕ, List, Option, sym, subst}
use Rattle.wire_base.specs.declared.shape.Shape.{Shape}
use Rattle.agent_history.specs.declared.event.Event.TheVariants.{TakeAsk}
use Rattle.agent_history.specs.declared.event.StepAnswer.TheVariants.{Ask, NoAsk}
use Rattle.agent_history.specs.Conversations.{Question}
use Rattle.agent_talks.specs.Kept as kept
use Rattle.agent_talks.proofs.HandLemmas.{due_asks, next_stands}
use Rattle.agent_core.specs.Events.{AnswersAfter, IsPut}
use Rattle.agent_core.proofs.AskSteps.{asked_after, unasked_after}
use Rattle.agent_core.proofs.events.ask.Goals as goal

pub returns-in-Some-clause-answer : goal.returns-in-Some-clause-answer
returns-in-Some-clause-answer c =
    let q : Question = kept.question_of c.args.question in
    λ done running next shares.
    let put = c.in_ok-asked.ensures.put done (next_stands done c.args.shared.now.talks.talks q shares.talks.tells.talks.speak (due_asks done q next)) shares in
    subst (λ (now : List ℕ). AnswersAfter done TakeAsk (Ask q.call q.conv c.in-Some.shape) c.args.out.now now) (sym c.in_ok-undo_on_err.ensures.ok)
    (asked_after done q c.in-Some.shape c.args.out.now c.put_question.new.out running next (subst (λ (o : Option Shape). IsPut done q.conv o c.args.out.now c.put_question.new.out) c.in-Some.is put))

pub returns-in-None-clause-answer : goal.returns-in-None-clause-answer
returns-in-None-clause-answer c =
    let q : Question = kept.question_of c.args.question in
    λ done running next shares.
    let put = c.in_ok-asked.ensures.put done (next_stands done c.args.shared.now.talks.talks q shares.talks.tells.talks.speak (due_asks done q next)) shares in
    subst (λ (now : List ℕ). AnswersAfter done TakeAsk NoAsk c.args.out.now now) (sym c.in_ok-undo_on_err.ensures.ok)
    (unasked_after done q c.args.out.now c.put_question.new.out running next (subst (λ (o : Option Shape). IsPut done q.conv o c.args.out.now c.put_question.new.out) c.in-None.is put))
