use Rattle.symbolic_runs.proofs.SessionLaws.{started_before}
use Rattle.symbolic_runs.proofs.laws.a_conversation_moves_behind_its_start.Goals as goal

pub returns : goal.returns
returns c s run r past conv move at = started_before s run past conv move r.by_the_tables at
