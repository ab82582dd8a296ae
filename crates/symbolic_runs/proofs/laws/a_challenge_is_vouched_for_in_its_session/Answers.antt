use Rattle.symbolic_runs.proofs.SessionLaws.{challenged}
use Rattle.symbolic_runs.proofs.laws.a_challenge_is_vouched_for_in_its_session.Goals as goal

pub returns : goal.returns
returns c s run r past session kind number first at = challenged s run past session kind number first r.by_the_tables at
