use Rattle.std.proofs.Common.{arith}
use Rattle.agent_serving.proofs.ServingLemmas.{begun}
use Rattle.agent_serving.proofs.accept.begin.Goals as goal

pub returns-in-Ok-clause-begun : goal.returns-in-Ok-clause-begun
returns-in-Ok-clause-begun g c came =
    begun c.args.asks c.args.seat came _ _ c.begin_asks-seat.result.0 c.split-seat.result.0 c.split-seat.result.1 _ _ _ (rw c.in_default.is at c.begin_asks-seat.ensures.asking) c.split-seat.ensures.parted c.in-Ok.ensures.taken
    (omega (arith, c.begin_asks-seat.ensures.counted, c.in-Ok.ensures.counted))
