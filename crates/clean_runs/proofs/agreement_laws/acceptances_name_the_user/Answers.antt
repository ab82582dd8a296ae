use Rattle.clean_runs.proofs.Shown.{case_of}
use Rattle.clean_runs.proofs.Users.{servers_name_the_user}
use Rattle.clean_runs.proofs.agreement_laws.acceptances_name_the_user.Goals as goal

pub returns : goal.returns
returns c = λ history z atoms l legal clean. servers_name_the_user (case_of history z atoms l legal clean)
