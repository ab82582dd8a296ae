use Rattle.symbolic_runs.proofs.Parts.{derives_more}
use Rattle.symbolic_runs.proofs.laws.what_follows_from_less_follows_from_more.Goals as goal

pub returns : goal.returns
returns c = derives_more
