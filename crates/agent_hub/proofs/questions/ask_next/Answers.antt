use Rattle.std.proofs.Common.{arith}
use Rattle.agent_hub.proofs.AskLemmas.{asked_next, asked_still, closed_next, none_next}
use Rattle.agent_hub.proofs.questions.ask_next.Goals as goal

pub returns-in_default-clause-told : goal.returns-in_default-clause-told
returns-in_default-clause-told g c = λ first old faults d.
    asked_still c.in_default.field-0 _ _ first c.args.seat c.submit-seat.result.0 old _ faults _ d (rw c.in_default.is at c.submit-seat.ensures.submitted)

pub returns-in-DropCall-clause-told : goal.returns-in-DropCall-clause-told
returns-in-DropCall-clause-told g c = λ first old faults d.
    closed_next c.in-DropCall.conv _ _ first c.args.seat c.submit-seat.result.0 old _ _ faults _ _ c.requires.numbered.0 c.requires.numbered.1 d (rw (c.in-Ok.is, c.in-DropCall.is) at c.submit-seat.ensures.submitted) c.close.ensures.told c.close.ensures.exact

pub returns-in_default-next-2 : goal.returns-in_default-next-2
returns-in_default-next-2 g c = record {
  seat = c.submit-seat.ensures.seat;
  told = λ first old faults d.
      none_next c.in-Ok.next c.unless_stopped.result _ _ first c.args.seat c.submit-seat.result.0 old _ faults _ c.requires.numbered.0 c.requires.numbered.1 d (rw c.in-Ok.is at c.submit-seat.ensures.submitted)
      c.in_default-next.not-DropCall c.in_default-next-2.not-Ask c.unless_stopped.ensures;
  counted = omega arith;
}

pub returns : goal.returns
returns g c = record {
  seat = c.tell-seat.ensures.seat;
  told = λ first old faults d.
      let e = rw c.as_slice.ensures at c.exchange-event.ensures.asked in
      asked_next c.in-Ask.call c.in-Ask.conv c.in-Ask.shape _ _ first c.args.seat c.submit-seat.result.0 c.tell-seat.result old _ _ faults _ _ c.exchange-event.result c.requires.numbered.0 c.requires.numbered.1 d
      (rw (c.in-Ok.is, c.in-Ask.is) at c.submit-seat.ensures.submitted) c.new-request.ensures e (c.tell-seat.ensures.told e.outcome e.is);
  counted = c.exchange-event.ensures.counted;
}
