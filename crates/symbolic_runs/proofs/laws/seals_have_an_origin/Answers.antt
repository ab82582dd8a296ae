use Rattle.symbolic_runs.proofs.ProvenanceLaws.{seal_origin}
use Rattle.symbolic_runs.proofs.laws.seals_have_an_origin.Goals as goal

pub returns : goal.returns
returns c s run r = seal_origin s run r.by_the_tables
