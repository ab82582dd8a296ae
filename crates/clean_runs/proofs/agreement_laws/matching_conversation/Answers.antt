use Rattle.clean_runs.proofs.SessionLaw.{sessions_go}
use Rattle.clean_runs.proofs.Shown.{case_of}
use Rattle.clean_runs.proofs.Agreeing.{clients_match}
use Rattle.clean_runs.proofs.agreement_laws.matching_conversation.Goals as goal

pub returns : goal.returns
returns c = λ history z atoms l legal clean. let d = case_of history z atoms l legal clean in clients_match d (sessions_go d)
