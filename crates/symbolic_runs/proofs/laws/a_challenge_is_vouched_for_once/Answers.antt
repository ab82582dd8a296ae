use Rattle.symbolic_runs.proofs.SessionLaws.{one_vouch}
use Rattle.symbolic_runs.proofs.laws.a_challenge_is_vouched_for_once.Goals as goal

pub returns : goal.returns
returns c s run r past other session again kind same number later first at at' = one_vouch s run past other session again kind same number later first r.by_the_tables at at'
