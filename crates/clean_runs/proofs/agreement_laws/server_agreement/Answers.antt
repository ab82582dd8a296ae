use Rattle.clean_runs.proofs.SessionLaw.{sessions_go}
use Rattle.clean_runs.proofs.Shown.{case_of}
use Rattle.clean_runs.proofs.Agreeing.{servers_agree}
use Rattle.clean_runs.proofs.agreement_laws.server_agreement.Goals as goal

pub returns : goal.returns
returns c = λ history z atoms l legal clean. let d = case_of history z atoms l legal clean in servers_agree d (sessions_go d)
