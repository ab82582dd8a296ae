use Rattle.symbolic_runs.proofs.ProvenanceLaws.{digest_origin}
use Rattle.symbolic_runs.proofs.laws.digests_have_an_origin.Goals as goal

pub returns : goal.returns
returns c s run r = digest_origin s run r.by_the_tables
