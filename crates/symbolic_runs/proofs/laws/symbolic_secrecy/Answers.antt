use Rattle.symbolic_runs.proofs.SecrecyLaws.{secrecy}
use Rattle.symbolic_runs.proofs.laws.symbolic_secrecy.Goals as goal

pub returns : goal.returns
returns c s run r = secrecy s run r.by_the_tables
