use Rattle.complete_logins.proofs.LoginLaws.{login_ends}
use Rattle.complete_logins.proofs.laws.a_login_by_p9sk1_ends_well.Goals as goal

pub returns : goal.returns
returns c = login_ends
