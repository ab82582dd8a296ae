use Rattle.agent_hub.proofs.SubmitLemmas.{submitted}
use Rattle.agent_hub.proofs.hub.Hub.submit.Goals as goal

pub returns-clause-submitted : goal.returns-clause-submitted
returns-clause-submitted g c = submitted _ _ _ _ _ _ c.requires.seat.numbered.0 c.requires.seat.numbered.1 c.carry_out-seat.ensures.turned
