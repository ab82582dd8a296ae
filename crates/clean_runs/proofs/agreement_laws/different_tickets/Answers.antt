use Rattle.clean_runs.proofs.SessionLaw.{sessions_go}
use Rattle.clean_runs.proofs.Shown.{case_of}
use Rattle.clean_runs.proofs.Apart.{each_by_a_ticket, one_by_a_ticket}
use Rattle.clean_runs.proofs.Texts.{one_by_a_text}
use Rattle.clean_runs.proofs.agreement_laws.different_tickets.Goals as goal

pub returns-clause-by_a_ticket : goal.returns-clause-by_a_ticket
returns-clause-by_a_ticket c = λ history z atoms l legal clean. let d = case_of history z atoms l legal clean in each_by_a_ticket d (sessions_go d)

pub returns-clause-by_one_ticket : goal.returns-clause-by_one_ticket
returns-clause-by_one_ticket c = λ history z atoms l legal clean. let d = case_of history z atoms l legal clean in one_by_a_ticket d (sessions_go d)

pub returns-clause-by_one_text : goal.returns-clause-by_one_text
returns-clause-by_one_text c = λ history z atoms l legal clean. let d = case_of history z atoms l legal clean in one_by_a_text d (sessions_go d)
