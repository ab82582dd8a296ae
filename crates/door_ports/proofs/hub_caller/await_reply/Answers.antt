use Rattle.std.proofs.Common.{Option, subst}
use Rattle.door_ports.specs.declared.reply.Reply.{Reply}
use Rattle.door_ports.specs.Hubs.{Takes}
use Rattle.door_ports.proofs.hub_caller.await_reply.Goals as goal

pub returns-in-Ok-Some-clause-took : goal.returns-in-Ok-Some-clause-took
returns-in-Ok-Some-clause-took g c = λ first done frame word waits.
    let took = rw c.in-Ok-Some.is at c.take_one-next.ensures.took in
    subst (λ (found : Option Reply). Takes found first done c.args.conn frame word c.take_one-next.result.0) c.in-Ok-Some.field-0-is (took first done frame word (c.loop.invariant.waits first done frame word waits))
