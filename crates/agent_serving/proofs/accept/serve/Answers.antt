use Rattle.agent_serving.proofs.ServingLemmas.{stopped}
use Rattle.agent_serving.proofs.accept.serve.Goals as goal

pub returns-clause-served : goal.returns-clause-served
returns-clause-served g c =
    stopped c.args.asks c.args.seat _ _ _ c.accept_all-seat.result.1 c.accept_all-seat.result.0 c.submit-seat.result.0 _ _ _ c.submit-seat.result.1 _ _ _ c.accept_all-seat.ensures.seat.numbered.1 c.accept_all-seat.ensures.ended
    c.submit-seat.ensures.submitted
