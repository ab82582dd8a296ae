use Rattle.std.proofs.Common.{◌≡◌, ℕ, arith, subst}
use Rattle.agent_hub.specs.declared.exchange.TakesEnd.TheVariants.{Left}
use Rattle.agent_hub.specs.Exchanging.{TakesSome}
use Rattle.agent_hub.proofs.ExchangeLemmas.{all_taken, some_taken, taking_more, taking_still}
use Rattle.agent_hub.proofs.exchange.take_until.Goals as goal

pub returns-then-len-most : goal.returns-then-len-most
returns-then-len-most c = λ H stands. some_taken H c.args.conn c.args.out.now c.loop-taken.taken c.loop-taken.out c.loop-taken.agent (c.loop-taken.invariant H stands)

pub returns-then-not-has_reply : goal.returns-then-not-has_reply
returns-then-not-has_reply c = λ H stands. all_taken H c.args.conn c.args.out.now c.loop-taken.taken _ _ _ _ _ (c.loop-taken.invariant H stands) c.why_none-end.ensures

pub returns-in_default : goal.returns-in_default
returns-in_default c = λ H stands. taking_still H c.args.conn c.args.out.now c.loop-taken.taken _ _ _ _ (c.loop-taken.invariant H stands) c.in_default.ensures.err_stands c.in_default.ensures.err_out

pub loop-taken-preserved : goal.loop-taken-preserved
loop-taken-preserved c = λ H stands. taking_more H c.args.conn c.args.out.now c.loop-taken.taken _ _ _ _ (c.loop-taken.invariant H stands) c.in-Ok.ensures.ok

pub returns : goal.returns
returns c = λ H stands. let n : ℕ = c.loop-taken.taken in let all : n ≡ 65536 = omega (arith, c.loop-taken-test.false, c.loop-taken.auto.taken-end) in
    subst (λ (k : ℕ). TakesSome H c.args.conn k Left c.args.out.now c.loop-taken.out c.loop-taken.agent) all (some_taken H c.args.conn c.args.out.now n c.loop-taken.out c.loop-taken.agent (c.loop-taken.invariant H stands))
