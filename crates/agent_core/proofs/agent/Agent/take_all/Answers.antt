use Rattle.std.proofs.Common.{ℕ, ◌++◌, sym, subst, ◌∙◌}
use Rattle.agent_history.specs.Histories.{History}
use Rattle.agent_core.specs.Serves.{takes}
use Rattle.agent_core.proofs.ServeSteps.{TookSome, took_more, took_none, took_short, took_so}
use Rattle.agent_core.proofs.agent.Agent.take_all.Goals as goal

pub loop-self-init : goal.loop-self-init
loop-self-init c = λ H stands. took_none H c.args.conn c.args.out.now c.args.self.now stands

pub loop-self-preserved : goal.loop-self-preserved
loop-self-preserved c = λ H stands.
    let some = c.loop-self.invariant H stands in
    let history : History = takes c.loop-self.taken c.args.conn ++ H in
    let is = sym (c.has_reply.ensures.told history some.stands) ∙ c.loop-self-test.true in
    subst (λ (n : ℕ). TookSome H c.args.conn n c.args.out.now c.take.new.out c.take.new.self) (sym c.in-Ok.ensures.counted)
    (took_more H c.args.conn c.loop-self.taken _ _ _ _ _ some is (c.in-Ok.ensures.told history some.stands) (c.in-Ok.ensures.stands history some.stands))

pub returns-in-Err : goal.returns-in-Err
returns-in-Err c = λ H stands.
    let some = c.loop-self.invariant H stands in
    let history : History = takes c.loop-self.taken c.args.conn ++ H in
    let is = sym (c.has_reply.ensures.told history some.stands) ∙ c.loop-self-test.true in
    took_short H c.args.conn c.loop-self.taken _ _ _ _ _ some (sym c.has_reply.ensures.gives ∙ c.loop-self-test.true) is c.in-Err.ensures.err_out (c.in-Err.ensures.err_stands history some.stands)

pub returns : goal.returns
returns c = λ H stands.
    let some = c.loop-self.invariant H stands in
    let history : History = takes c.loop-self.taken c.args.conn ++ H in
    let none = sym (c.has_reply.ensures.told history some.stands) ∙ c.loop-self-test.false in
    took_so H c.args.conn c.loop-self.taken c.why_none.result _ _ _ some (c.why_none.ensures history c.args.conn some.stands none)
