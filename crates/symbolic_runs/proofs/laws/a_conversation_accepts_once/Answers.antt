use Rattle.symbolic_runs.proofs.OnceLaws.{accepts_once}
use Rattle.symbolic_runs.proofs.laws.a_conversation_accepts_once.Goals as goal

pub returns : goal.returns
returns c s run r past other conv user again at at' = accepts_once s run past other conv user again r.by_the_tables at at'
