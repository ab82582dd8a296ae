use Rattle.std.proofs.Common.{◌≡◌, sym, ap, subst, ◌∙◌, arith}
use Rattle.std.proofs.lemmas.Result.{on_ok_weaker, IfOk-weaker}
use Rattle.agent_history.specs.Conversations.{Due, NoneDue, DropDue, QuestionDue, due}
use Rattle.agent_history.specs.Histories.{handing}
use Rattle.agent_talks.specs.Kept.{question_of, unasked}
use Rattle.agent_talks.specs.Calls.{drop_of}
use Rattle.agent_talks.specs.Keeps.{IsLeft, due_of}
use Rattle.agent_talks.specs.Logging.{keeping_of}
use Rattle.agent_talks.specs.declared.due.Due.{Due as HeldDue}
use Rattle.agent_requests.specs.Sharing.{Shares}
use Rattle.agent_requests.proofs.ShareLemmas.{with_talks}
use Rattle.agent_core.proofs.AskSteps.{dropped_after, dropped_fewer, none_after}
use Rattle.agent_core.proofs.EventSteps.{shares_dropped}
use Rattle.agent_core.proofs.events.take_ask.Goals as goal

pub returns-in-Nothing-clause-shares : goal.returns-in-Nothing-clause-shares
returns-in-Nothing-clause-shares c = λ done h.
    let next : NoneDue ≡ due done = ap due_of (sym c.in-Nothing.is) ∙ c.due.ensures.told done h.talks in
    subst (λ (d : Due). Shares (handing d done) c.args.shared.now) next h

pub returns-in-Call-clause-shares : goal.returns-in-Call-clause-shares
returns-in-Call-clause-shares c = λ done h.
    let next : DropDue (drop_of c.in-Call.given) ≡ due done = ap due_of (sym c.in-Call.is) ∙ c.due.ensures.told done h.talks in
    subst (λ (d : Due). Shares (handing d done) (with_talks c.args.shared.now c.take_drop.new.self)) next (shares_dropped done c.args.shared.now c.take_drop.new.self (c.take_drop.ensures.taken done h.talks) h)

pub returns-in-Question-clause-shares : goal.returns-in-Question-clause-shares
returns-in-Question-clause-shares c = on_ok_weaker c.ask.result (λ asks done h.
    let next : QuestionDue (question_of c.in-Question.question) ≡ due done = ap due_of (sym c.in-Question.is) ∙ c.due.ensures.told done h.talks in
    subst (λ (d : Due). Shares (handing d done) c.ask.new.shared) next (asks done h)) c.ask.ensures.shares

pub returns-in-Nothing-clause-answer : goal.returns-in-Nothing-clause-answer
returns-in-Nothing-clause-answer c = λ done running h.
    let next : NoneDue ≡ due done = ap due_of (sym c.in-Nothing.is) ∙ c.due.ensures.told done h.talks in
    none_after done c.args.out.now running (sym next)

pub returns-in-Call-clause-answer : goal.returns-in-Call-clause-answer
returns-in-Call-clause-answer c = λ done running h.
    let next : DropDue (drop_of c.in-Call.given) ≡ due done = ap due_of (sym c.in-Call.is) ∙ c.due.ensures.told done h.talks in
    dropped_after done (drop_of c.in-Call.given) c.args.out.now running (sym next)

pub returns-in-Question-clause-answer : goal.returns-in-Question-clause-answer
returns-in-Question-clause-answer c = IfOk-weaker c.ask.result _ _ (λ a answers done running h.
    let next : QuestionDue (question_of c.in-Question.question) ≡ due done = ap due_of (sym c.in-Question.is) ∙ c.due.ensures.told done h.talks in
    answers done running (sym next) h) c.ask.ensures.answer

pub returns-in-Call-clause-fewer : goal.returns-in-Call-clause-fewer
returns-in-Call-clause-fewer c =
    let k = keeping_of c.args.shared.now.talks in
    let left = subst (λ (d : HeldDue). IsLeft d k) c.in-Call.is c.due.ensures.left in
    rw c.take_drop.ensures.talks (dropped_fewer k.calls.drops c.take_drop.new.self.calls.drops (unasked k.talks) c.take_drop.ensures.drops left)

pub returns-in-Question-clause-fewer : goal.returns-in-Question-clause-fewer
returns-in-Question-clause-fewer c =
    let k = keeping_of c.args.shared.now.talks in
    c.ask.ensures.fewer (subst (λ (d : HeldDue). IsLeft d k) c.in-Question.is c.due.ensures.left)

pub returns-in-Question-clause-takes_none : goal.returns-in-Question-clause-takes_none
returns-in-Question-clause-takes_none c =
    let k = keeping_of c.args.shared.now.talks in
    let left = subst (λ (d : HeldDue). IsLeft d k) c.in-Question.is c.due.ensures.left in
    λ none. absurd (omega (arith, left, none))
