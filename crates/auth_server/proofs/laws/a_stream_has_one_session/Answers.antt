use Rattle.auth_server.proofs.SessionLaws.{one_session}
use Rattle.auth_server.proofs.laws.a_stream_has_one_session.Goals as goal

pub returns : goal.returns
returns c = one_session
