use Rattle.clean_runs.proofs.SessionLaw.{sessions_go}
use Rattle.clean_runs.proofs.Shown.{case_of}
use Rattle.clean_runs.proofs.Apart.{one_under_a_grant, one_by_a_match}
use Rattle.clean_runs.proofs.agreement_laws.different_grants.Goals as goal

pub returns-clause-under_one_grant : goal.returns-clause-under_one_grant
returns-clause-under_one_grant c = λ history z atoms l legal clean. let d = case_of history z atoms l legal clean in one_under_a_grant d (sessions_go d)

pub returns-clause-matched_by_one : goal.returns-clause-matched_by_one
returns-clause-matched_by_one c = λ history z atoms l legal clean. let d = case_of history z atoms l legal clean in one_by_a_match d (sessions_go d)
