use Rattle.symbolic_runs.proofs.Parts.{derives_later}
use Rattle.symbolic_runs.proofs.laws.what_is_known_stays_known.Goals as goal

pub returns : goal.returns
returns c = derives_later
