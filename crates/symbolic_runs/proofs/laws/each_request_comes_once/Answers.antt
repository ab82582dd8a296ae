use Rattle.symbolic_runs.proofs.SessionLaws.{one_request}
use Rattle.symbolic_runs.proofs.laws.each_request_comes_once.Goals as goal

pub returns : goal.returns
returns c s run r past other session again number t u at at' = one_request s run past other session again number t u r.by_the_tables at at'
