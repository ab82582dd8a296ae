use Rattle.symbolic_runs.proofs.Clients.{client_answered, client_hosted}
use Rattle.symbolic_runs.proofs.agreement_laws.client_agreement.Goals as goal

pub returns-clause-answered : goal.returns-clause-answered
returns-clause-answered c = λ s run r a number u e. client_answered s run r.by_the_tables a number u e

pub returns-clause-hosted : goal.returns-clause-hosted
returns-clause-hosted c = λ s run r a p. client_hosted s run r.by_the_tables a p
