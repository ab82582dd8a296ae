use Rattle.symbolic_runs.proofs.SecrecyLaws.{guarded}
use Rattle.symbolic_runs.proofs.laws.guarded_terms_are_closed.Goals as goal

pub returns : goal.returns
returns c = guarded
