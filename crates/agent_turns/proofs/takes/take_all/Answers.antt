use Rattle.agent_turns.proofs.TakeLemmas.{taking_none, taking_more, taking_ends}
use Rattle.agent_turns.proofs.takes.take_all.Goals as goal

pub loop-replies-init : goal.loop-replies-init
loop-replies-init c = λ H stands. taking_none H c.args.agent.now _ c.new-replies.ensures stands

pub loop-replies-preserved : goal.loop-replies-preserved
loop-replies-preserved c = λ H stands.
    let t = c.loop-replies.invariant H stands in
    taking_more H c.loop-replies.agent c.take_next.new.agent _ _ t (rw c.if-branch.true at c.in_ok-take_next.ensures.takes t.history t.stands)

pub returns : goal.returns
returns c = λ H stands.
    let t = c.loop-replies.invariant H stands in
    taking_ends H c.loop-replies.agent c.take_next.new.agent _ _ t (rw c.if-branch.false at c.in_ok-take_next.ensures.takes t.history t.stands)
