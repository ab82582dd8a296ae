use Rattle.sockets.proofs.OrderLemmas.{all_of_order}
use Rattle.sockets.proofs.failures.FailuresRecalls.order.Goals as goal

pub returns-clause-each : goal.returns-clause-each
returns-clause-each c = all_of_order _ _ _ _ _ _ c.in_ok-order.ensures.items c.in_ok-add_ready.ensures c.in_ok-add_failed.ensures
