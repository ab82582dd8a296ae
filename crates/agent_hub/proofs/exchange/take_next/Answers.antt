use Rattle.agent_hub.proofs.exchange.take_next.Goals as goal

pub returns-in-Ok-clause-ok : goal.returns-in-Ok-clause-ok
returns-in-Ok-clause-ok c = λ H stands. record { stands = c.in-Ok.ensures.stands H stands; out = (c.in-Ok.ensures.answer H stands).out }
