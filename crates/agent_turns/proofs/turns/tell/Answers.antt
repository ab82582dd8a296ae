-- what is recorded of a line is what its replies say
use Rattle.std.proofs.Common.{refl}
use Rattle.agent_turns.proofs.TurnLemmas.{told_so}
use Rattle.agent_turns.proofs.turns.tell.Goals as goal

pub returns : goal.returns
returns c = λ H stood.
    told_so c.args.number c.args.node.now c.args.line.now H c.in_ok-write.write c.drive.new.agent c.in_ok-told.told _ (rw c.in_ok-from_slice.ensures at c.in_ok-write.ensures.is)
    (c.in_ok-told.ensures H stood) (rw (c.as_slice.ensures, c.new-steps.ensures.items) at c.in_ok-put_all_told.ensures) refl
