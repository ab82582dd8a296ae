use Rattle.complete_logins.proofs.ChoiceLaws.{choice_ends}
use Rattle.complete_logins.proofs.laws.a_login_by_p9any_ends_well.Goals as goal

pub returns : goal.returns
returns c = choice_ends
