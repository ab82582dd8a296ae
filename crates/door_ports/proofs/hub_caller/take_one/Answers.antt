use Rattle.std.proofs.lemmas.Result.{IfOk-weaker}
use Rattle.door_ports.proofs.HubLemmas.{took_so}
use Rattle.door_ports.proofs.hub_caller.take_one.Goals as goal

pub returns-in-Ok-clause-took : goal.returns-in-Ok-clause-took
returns-in-Ok-clause-took g c = IfOk-weaker c.reply_in.result _ _ (λ found tells first done frame word waits.
    took_so first done c.args.conn frame word c.in-Ok.answer found _ _ c.args.seat c.submit-seat.result.0 c.requires.numbered.0 c.requires.numbered.1 c.new-taken.ensures (rw c.in-Ok.is at c.submit-seat.ensures.submitted) (rw c.as_slice.ensures at tells) waits) c.reply_in.ensures
