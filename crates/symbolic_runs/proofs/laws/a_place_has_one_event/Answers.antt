use Rattle.std.proofs.Common.{refl}
use Rattle.symbolic_runs.proofs.OnceLaws.{one_event}
use Rattle.symbolic_runs.proofs.laws.a_place_has_one_event.Goals as goal

pub returns : goal.returns
returns c run past event other at at' = one_event run past past event other at at' refl
