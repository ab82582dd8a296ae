use Rattle.symbolic_runs.proofs.Apart.{a_ticket, by_one_ticket}
use Rattle.symbolic_runs.proofs.agreement_laws.different_tickets.Goals as goal

pub returns-clause-by_a_ticket : goal.returns-clause-by_a_ticket
returns-clause-by_a_ticket c = λ s run r a. a_ticket s run r.by_the_tables a

pub returns-clause-by_one_ticket : goal.returns-clause-by_one_ticket
returns-clause-by_one_ticket c = λ s run r a b t u shows shows' e. by_one_ticket s run r.by_the_tables a b t u shows shows' e
