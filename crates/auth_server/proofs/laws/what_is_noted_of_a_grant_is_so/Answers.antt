use Rattle.auth_server.proofs.NoticeLaws.{granted_under, refused_lacks}
use Rattle.auth_server.proofs.laws.what_is_noted_of_a_grant_is_so.Goals as goal

pub returns-clause-granted : goal.returns-clause-granted
returns-clause-granted c = granted_under

pub returns-clause-refused : goal.returns-clause-refused
returns-clause-refused c = refused_lacks
