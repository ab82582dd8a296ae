use Rattle.std.proofs.lemmas.Result.{IfOk-weaker}
use Rattle.door_ports.proofs.HubLemmas.{asked_so}
use Rattle.door_ports.proofs.hub_caller.ask.Goals as goal

pub returns-in-Ok-clause-told : goal.returns-in-Ok-clause-told
returns-in-Ok-clause-told g c = IfOk-weaker c.await_reply.result.1 _ _ (λ reply took first done so.
    took first done c.args.frame c.args.word
    (asked_so first done c.args.conn c.args.frame c.args.word c.in-Ok.field-0 _ _ c.args.seat c.submit-seat.result.0 c.requires.seat.numbered.0 c.requires.seat.numbered.1 so (rw c.in-Ok.is at c.submit-seat.ensures.submitted))) c.await_reply.ensures.took
