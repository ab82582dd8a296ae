use Rattle.agent_turns.proofs.AskLemmas.{asking_none, asking_more, asking_ends}
use Rattle.agent_turns.proofs.takes.ask_all.Goals as goal

pub loop-questions-init : goal.loop-questions-init
loop-questions-init c = λ H stands. asking_none H c.args.agent.now _ c.new-questions.ensures stands

pub loop-questions-preserved : goal.loop-questions-preserved
loop-questions-preserved c = λ H stands.
    let t = c.loop-questions.invariant H stands in
    asking_more H c.loop-questions.agent c.ask_next.new.agent _ _ t (rw c.if-branch.true at c.in_ok-ask_next.ensures.asks t.history t.stands)

pub returns : goal.returns
returns c = λ H stands.
    let t = c.loop-questions.invariant H stands in
    asking_ends H c.loop-questions.agent c.ask_next.new.agent _ _ t (rw c.if-branch.false at c.in_ok-ask_next.ensures.asks t.history t.stands)
