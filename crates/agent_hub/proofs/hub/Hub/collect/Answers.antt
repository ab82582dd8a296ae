use Rattle.agent_hub.proofs.ExchangeLemmas.{collected}
use Rattle.agent_hub.proofs.hub.Hub.collect.Goals as goal

pub returns-clause-collected : goal.returns-clause-collected
returns-clause-collected g c = collected _ _ _ _ _ _ _ c.requires.numbered.0 c.requires.numbered.1 c.take_some-seat.ensures.turned
