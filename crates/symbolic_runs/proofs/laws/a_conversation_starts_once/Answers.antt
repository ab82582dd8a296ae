use Rattle.symbolic_runs.proofs.SessionLaws.{one_start}
use Rattle.symbolic_runs.proofs.laws.a_conversation_starts_once.Goals as goal

pub returns : goal.returns
returns c = one_start
