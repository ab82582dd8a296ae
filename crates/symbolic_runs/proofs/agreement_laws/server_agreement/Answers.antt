use Rattle.symbolic_runs.proofs.Servers.{server_agrees}
use Rattle.symbolic_runs.proofs.agreement_laws.server_agreement.Goals as goal

pub returns : goal.returns
returns c s run r a = server_agrees s run r.by_the_tables a
