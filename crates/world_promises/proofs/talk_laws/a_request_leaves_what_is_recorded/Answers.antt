use Rattle.world_promises.proofs.LeaveLaws.{absence_leaves, answers_leave, requests_leave}
use Rattle.world_promises.proofs.talk_laws.a_request_leaves_what_is_recorded.Goals as goal

pub returns : goal.returns
returns c = record { request = requests_leave; answer = answers_leave; absence = absence_leaves }
