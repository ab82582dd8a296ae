use Rattle.std.proofs.Common.{rules, refl}
use Rattle.agent_hub.proofs.ExchangeLemmas.{exchanged}
use Rattle.agent_hub.proofs.hub.Hub.exchange.Goals as goal

pub returns-clause-exchanged : goal.returns-clause-exchanged
returns-clause-exchanged g c = exchanged _ _ _ _ _ _ _ _ _ _ c.requires.numbered.0 c.requires.numbered.1 (search rules) refl c.serve_batch-seat.ensures.turned
