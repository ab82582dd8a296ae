use Rattle.auth_tables.proofs.SpeakLaws.{denied}
use Rattle.auth_tables.proofs.laws.a_denial_goes_before_every_grant.Goals as goal

pub returns : goal.returns
returns c = denied
