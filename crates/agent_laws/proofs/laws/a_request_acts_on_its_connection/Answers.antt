use Rattle.agent_laws.proofs.DeedLaws.{frame_adds}
use Rattle.agent_laws.proofs.laws.a_request_acts_on_its_connection.Goals as goal

pub returns : goal.returns
returns c = frame_adds
