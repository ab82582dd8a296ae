use Rattle.agent_talks.specs.Changes.{BothGo, BothReady, BothStay, IsAsking, next_by}
use Rattle.agent_talks.proofs.BackLemmas.{err_so}
use Rattle.agent_talks.proofs.NumberedLemmas.{put_both}
use Rattle.agent_talks.proofs.carry.step_at.Goals as goal

pub returns-in_err-take_step-in-Some-clause-back : goal.returns-in_err-take_step-in-Some-clause-back
returns-in_err-take_step-in-Some-clause-back c =
    let puts = rw c.in-Some.is at c.get_mut.follows.holds c.take_step.new.conversation in
    err_so c.from_residual.result (put_both _ _ c.args.conv _ _ c.in-Some.ensures.value puts (λ x y. BothStay x y) c.in_err-take_step-in-Some.ensures.back)

pub returns-in_err-take_step-in-Some-clause-others : goal.returns-in_err-take_step-in-Some-clause-others
returns-in_err-take_step-in-Some-clause-others c =
    let puts = rw c.in-Some.is at c.get_mut.follows.holds c.take_step.new.conversation in puts.others

pub returns-in_ok-take_step-in-Some-clause-kept : goal.returns-in_ok-take_step-in-Some-clause-kept
returns-in_ok-take_step-in-Some-clause-kept c =
    let puts = rw c.in-Some.is at c.get_mut.follows.holds c.take_step.new.conversation in
    put_both _ _ c.args.conv _ _ c.in-Some.ensures.value puts (λ x y. BothGo x y (next_by c.args.step c.args.asking c.args.ring.now)) c.in_ok-take_step-in-Some.ensures.kept

pub returns-in_ok-take_step-in-Some-clause-ready : goal.returns-in_ok-take_step-in-Some-clause-ready
returns-in_ok-take_step-in-Some-clause-ready c =
    let puts = rw c.in-Some.is at c.get_mut.follows.holds c.take_step.new.conversation in
    put_both _ _ c.args.conv _ _ c.in-Some.ensures.value puts (λ x y. BothReady x c.args.step c.args.asking c.args.ring.now c.take_step.new.asks) c.in_ok-take_step-in-Some.ensures.ready

pub returns-in_ok-take_step-in-Some-clause-on_server : goal.returns-in_ok-take_step-in-Some-clause-on_server
returns-in_ok-take_step-in-Some-clause-on_server c =
    let puts = rw c.in-Some.is at c.get_mut.follows.holds c.take_step.new.conversation in
    put_both _ _ c.args.conv _ _ c.in-Some.ensures.value puts (λ x y. IsAsking y c.waits_for_server.result) c.waits_for_server.ensures

pub returns-in_ok-take_step-in-Some-clause-others : goal.returns-in_ok-take_step-in-Some-clause-others
returns-in_ok-take_step-in-Some-clause-others c =
    let puts = rw c.in-Some.is at c.get_mut.follows.holds c.take_step.new.conversation in puts.others
