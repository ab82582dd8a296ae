use Rattle.symbolic_runs.proofs.SessionLaws.{one_answer}
use Rattle.symbolic_runs.proofs.laws.each_request_is_answered_once.Goals as goal

pub returns : goal.returns
returns c s run r past other session again number d d' at at' e e' = one_answer s run past other session again number d d' r.by_the_tables at at' e e'
