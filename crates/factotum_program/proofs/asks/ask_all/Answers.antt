use Rattle.std.proofs.Common.{arith}
use Rattle.std.proofs.lemmas.Result.{err_from_is_err_and}
use Rattle.factotum_program.proofs.AskLemmas.{asking_ends, asking_more, asking_none, asking_stops}
use Rattle.factotum_program.proofs.asks.ask_all.Goals as goal

pub loop-init : goal.loop-init
loop-init g c = record { asking = λ H stands. asking_none H _ c.args.agent.now stands; later = omega arith }

pub returns-in_err-ask_next-clause-err : goal.returns-in_err-ask_next-clause-err
returns-in_err-ask_next-clause-err g c =
    let p = err_from_is_err_and c.from_residual.result c.from_residual.ensures.1 in
    rw p.1 (λ H stands.
    let a = c.loop.invariant.asking H stands in
    asking_stops H _ _ _ c.loop.agent a (c.in_err-ask_next.ensures.err a.history a.stands))

pub loop-preserved : goal.loop-preserved
loop-preserved g c = record {
  asking = λ H stands.
      let a = c.loop.invariant.asking H stands in
      asking_more H _ _ _ c.loop.agent c.ask_next.new.agent a (rw c.if-branch.true at c.in_ok-ask_next.ensures.asked a.history a.stands);
  later = omega (arith, c.loop.invariant.later, c.in_ok-ask_next.ensures.counted);
}

pub returns-clause-asked : goal.returns-clause-asked
returns-clause-asked g c = λ H stands.
    let a = c.loop.invariant.asking H stands in
    asking_ends H _ _ _ c.loop.agent c.ask_next.new.agent a (rw c.if-branch.false at c.in_ok-ask_next.ensures.asked a.history a.stands)
