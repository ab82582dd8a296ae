use Rattle.symbolic_runs.proofs.Apart.{under_one_grant, matched_by_one}
use Rattle.symbolic_runs.proofs.agreement_laws.different_grants.Goals as goal

pub returns-clause-under_one_grant : goal.returns-clause-under_one_grant
returns-clause-under_one_grant c = λ s run r a b p q number u v. under_one_grant s run r.by_the_tables a b p q number u v

pub returns-clause-matched_by_one : goal.returns-clause-matched_by_one
returns-clause-matched_by_one c = λ s run r a b p q number other conv u v m n. matched_by_one s run r.by_the_tables a b p q number other conv u v m n
