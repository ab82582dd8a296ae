use Rattle.clean_runs.proofs.SessionLaw.{sessions_go}
use Rattle.clean_runs.proofs.Shown.{case_of}
use Rattle.clean_runs.proofs.Clients.{clients_are_answered, clients_are_hosts}
use Rattle.clean_runs.proofs.agreement_laws.client_agreement.Goals as goal

pub returns-clause-answered : goal.returns-clause-answered
returns-clause-answered c = λ history z atoms l legal clean. let d = case_of history z atoms l legal clean in clients_are_answered d (sessions_go d)

pub returns-clause-hosted : goal.returns-clause-hosted
returns-clause-hosted c = λ history z atoms l legal clean. let d = case_of history z atoms l legal clean in clients_are_hosts d (sessions_go d)
