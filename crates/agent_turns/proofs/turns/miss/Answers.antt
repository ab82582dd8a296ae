-- that there is no answer is recorded, and then what follows on it
use Rattle.agent_turns.proofs.TurnLemmas.{missed_so}
use Rattle.agent_turns.proofs.turns.miss.Goals as goal

pub returns : goal.returns
returns c = λ H stood.
    missed_so c.args.number c.args.conv.now c.args.fid c.args.call H c.meet.new.agent c.in_ok-came.came _ (c.in_ok-came.ensures H stood)
    (rw (c.in_ok-put.ensures, c.new-steps.ensures.items, c.in_ok-conv_name.ensures) at c.in_ok-put_following.ensures)
    (rw c.as_slice.ensures at c.last_call-call.ensures)
