use Rattle.std.proofs.Common.{List, ℕ, subst}
use Rattle.std.proofs.lemmas.Result.{IfOk-weaker}
use Rattle.door_ports.specs.Agents.{Exchanges, behind}
use Rattle.door_ports.proofs.ExchangeLemmas.{exchanged_none, exchanged_reply, one_behind}
use Rattle.door_ports.proofs.agents.AgentAskedAgent.exchange.Goals as goal

pub returns-in_default : goal.returns-in_default
returns-in_default c = λ past done s.
    let entered = c.in_ok-request.ensures.stands (behind past done) s.stands in
    one_behind past done c.args.conn c.args.frame c.args.word c.silence_of.result c.args.self.now c.step.new.self s
    (subst (λ (f : List ℕ). Exchanges c.args.conn f c.args.word (behind past done) c.silence_of.result c.step.new.self) c.as_slice.ensures
    (exchanged_none c.args.conn c.as_slice.result.now c.args.word (behind past done) c.in_ok-answer.answer _ _ _ c.step.new.self (c.in_ok-answer.ensures.answer _ entered) c.in_default.not-Reply c.silence_of.ensures (c.in_ok-answer.ensures.stands _ entered)))

pub returns : goal.returns
returns c = IfOk-weaker c.read_reply.result _ _ (λ reply tells past done s.
    let entered = c.in_ok-request.ensures.stands (behind past done) s.stands in
    one_behind past done c.args.conn c.args.frame c.args.word reply c.args.self.now c.step.new.self s
    (subst (λ (f : List ℕ). Exchanges c.args.conn f c.args.word (behind past done) reply c.step.new.self) c.as_slice.ensures
    (exchanged_reply c.args.conn c.as_slice.result.now c.args.word (behind past done) c.in_ok-answer.answer _ _ _ reply c.step.new.self (c.in_ok-answer.ensures.answer _ entered) c.in-Reply.is c.new-taken.ensures c.as_slice-2.ensures tells (c.in_ok-answer.ensures.stands _ entered)))) c.read_reply.ensures
