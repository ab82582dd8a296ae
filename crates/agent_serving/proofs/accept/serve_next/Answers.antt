use Rattle.agent_serving.proofs.ServingLemmas.{no_more, no_room, one_lost, one_more}
use Rattle.agent_serving.proofs.accept.serve_next.Goals as goal

pub returns-in_default-clause-ends : goal.returns-in_default-clause-ends
returns-in_default-clause-ends g c asks first came taken faults going = no_more asks first came taken faults c.args.seat _ _ _ _ _ going c.in_default.ensures.accepted

pub returns-in_default-opened-clause-ends : goal.returns-in_default-opened-clause-ends
returns-in_default-opened-clause-ends g c asks first came taken faults going =
    no_room asks first came taken faults c.args.seat c.submit-seat.result.0 _ _ _ _ _ (c.in-Ok.source, c.in-Ok.sink) c.in_default-opened.field-0 _ _ going c.in-Ok.ensures.accepted
    (rw c.in_default-opened.is at c.submit-seat.ensures.submitted)

pub returns-in_default-spawn-clause-going : goal.returns-in_default-spawn-clause-going
returns-in_default-spawn-clause-going g c asks first came taken faults going =
    one_lost asks first came taken faults c.args.seat c.submit-seat.result.0 c.split-seat.result.0 c.split-seat.result.1 c.submit-seat-in_default-spawn.result.0 _ _ _ _ _ _ _ (c.in-Ok.source, c.in-Ok.sink) c.in-Ok-opened.field-0 _ _ _ c.submit-seat-in_default-spawn.result.1 _ _
    c.requires.seat.numbered.1 c.split-seat.ensures.one.numbered.1 going c.in-Ok.ensures.accepted (rw c.in-Ok-opened.is at c.submit-seat.ensures.submitted) c.split-seat.ensures.parted c.in_default-spawn.ensures.taken c.in_default-spawn.ensures.exact
    c.submit-seat-in_default-spawn.ensures.submitted

pub returns-clause-going : goal.returns-clause-going
returns-clause-going g c asks first came taken faults going =
    one_more asks first came taken faults c.args.seat c.submit-seat.result.0 c.split-seat.result.0 c.split-seat.result.1 _ _ _ _ _ _ _ (c.in-Ok.source, c.in-Ok.sink) c.in-Ok-opened.field-0 _ _ _ c.requires.seat.numbered.1 going c.in-Ok.ensures.accepted
    (rw c.in-Ok-opened.is at c.submit-seat.ensures.submitted) c.split-seat.ensures.parted c.in-Ok-spawn.ensures.taken c.in-Ok-spawn.ensures.counted
