-- an answer is recorded, and then what follows on it
use Rattle.agent_turns.proofs.TurnLemmas.{heard_so}
use Rattle.agent_turns.proofs.turns.hear.Goals as goal

pub returns : goal.returns
returns c = λ H stood.
    heard_so c.args.number c.args.conv.now c.args.fid c.args.call c.args.bytes.now H c.meet.new.agent c.in_ok-came.came _
    (rw c.in_ok-from_slice.ensures at (c.in_ok-came.ensures H stood))
    (rw (c.in_ok-put.ensures, c.new-steps.ensures.items, c.in_ok-from_slice-2.ensures, c.in_ok-from_slice-3.ensures) at c.in_ok-put_following.ensures)
    (rw c.as_slice.ensures at c.last_call-call.ensures)
