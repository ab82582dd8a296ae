-- what is recorded of a closing is what its replies say
use Rattle.std.proofs.Common.{refl}
use Rattle.agent_turns.proofs.TurnLemmas.{closed_so}
use Rattle.agent_turns.proofs.turns.close.Goals as goal

pub returns : goal.returns
returns c = λ H stood.
    closed_so c.args.number c.args.conv.now c.args.fid H c.in_ok-clunks.field-0 c.drive.new.agent c.in_ok-closed.closed _ c.in_ok-clunks.ensures.is (c.in_ok-closed.ensures H stood)
    (rw (c.as_slice.ensures, c.new-steps.ensures.items) at c.in_ok-put_frames.ensures) refl
