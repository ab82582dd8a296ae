use Rattle.agent_hub.proofs.AskLemmas.{told_it, told_no_room}
use Rattle.agent_hub.proofs.questions.tell.Goals as goal

pub returns-in-Ok-clause-told : goal.returns-in-Ok-clause-told
returns-in-Ok-clause-told g c = λ outcome is.
    told_it c.args.call outcome c.args.event.now c.in-Ok.field-0 _ _ c.args.seat c.submit-seat.result.0 c.requires.seat.numbered.0 c.requires.seat.numbered.1 (rw c.in-Ok.is at c.submit-seat.ensures.submitted) is

pub returns-in-Err-clause-told : goal.returns-in-Err-clause-told
returns-in-Err-clause-told g c = λ outcome is.
    told_no_room c.args.call outcome c.args.event.now c.in-Err.field-0 c.submit.result.1 _ _ _ c.args.seat c.submit-seat.result.0 c.submit.result.0 c.submit-seat.ensures.seat.numbered.0 c.submit-seat.ensures.seat.numbered.1
    (rw c.in-Err.is at c.submit-seat.ensures.submitted) c.submit.ensures.submitted is
