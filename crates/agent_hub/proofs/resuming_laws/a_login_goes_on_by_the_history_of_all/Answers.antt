use Rattle.agent_hub.proofs.ResumeLaws.{submits_go_on}
use Rattle.agent_hub.proofs.resuming_laws.a_login_goes_on_by_the_history_of_all.Goals as goal

pub returns : goal.returns
returns c = submits_go_on
