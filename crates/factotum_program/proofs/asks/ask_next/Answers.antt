use Rattle.std.proofs.Common.{arith}
use Rattle.std.proofs.lemmas.Result.{err_from_is_err_and}
use Rattle.factotum_program.proofs.AskLemmas.{asked_in_vain, asked_next, asked_none, asked_nothing, asks_fewer, closed_next}
use Rattle.factotum_program.proofs.MadeLemmas.{made_one}
use Rattle.factotum_program.proofs.asks.ask_next.Goals as goal

pub returns-in_err-next-clause-err : goal.returns-in_err-next-clause-err
returns-in_err-next-clause-err g c =
    let p = err_from_is_err_and c.from_residual.result c.from_residual.ensures.1 in
    rw p.1 (λ H stands. asked_nothing H _)

pub returns-in-DropCall-clause-asked : goal.returns-in-DropCall-clause-asked
returns-in-DropCall-clause-asked g c = λ H stands. closed_next H c.in-DropCall.conv _ _ _ _ c.step.new.self (rw c.in-DropCall.is at c.in_ok-next.ensures.answer H stands) (made_one _ _ _ c.close.ensures.told) (c.in_ok-next.ensures.stands H stands)

pub returns-in_default-next : goal.returns-in_default-next
returns-in_default-next g c = record {
  asked = λ H stands. asked_none H c.in_ok-next.next _ _ _ c.step.new.self (c.in_ok-next.ensures.answer H stands) c.in_default.not-DropCall c.in_default-next.not-Ask (c.in_ok-next.ensures.stands H stands);
  fewer = λ e. absurd (cc);
  err = tt;
  counted = omega arith;
}

pub returns-in_err-step-clause-err : goal.returns-in_err-step-clause-err
returns-in_err-step-clause-err g c =
    let p = err_from_is_err_and c.from_residual-in_err-step.result c.from_residual-in_err-step.ensures.1 in
    rw p.1 (λ H stands. asked_in_vain H c.in-Ask.call c.in-Ask.conv c.in-Ask.shape _ _ _ _ c.exchange-event.result (rw c.in-Ask.is at c.in_ok-next.ensures.answer H stands) c.new-request.ensures (rw c.as_slice.ensures at c.exchange-event.ensures.asked))

pub returns-clause-asked : goal.returns-clause-asked
returns-clause-asked g c = λ H stands. asked_next H c.in-Ask.call c.in-Ask.conv c.in-Ask.shape _ _ _ _ c.exchange-event.result c.step-2.new.self (rw c.in-Ask.is at c.in_ok-next.ensures.answer H stands) c.new-request.ensures (rw c.as_slice.ensures at c.exchange-event.ensures.asked)
    (c.in_ok-step.ensures.stands _ (c.in_ok-next.ensures.stands H stands))

pub returns-clause-fewer : goal.returns-clause-fewer
returns-clause-fewer g c = λ e. asks_fewer c.in-Ask.call c.in-Ask.conv c.in-Ask.shape _ _ _ c.exchange-event.result c.in_ok-step.field-0 c.args.agent.now.state c.step.new.self.state c.step-2.new.self.state (rw c.in-Ask.is at c.in_ok-next.ensures.asks)
    c.exchange-event.ensures.asked c.in_ok-step.ensures.asks c.in_ok-step.ensures.gives_up
