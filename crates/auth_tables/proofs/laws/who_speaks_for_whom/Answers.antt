use Rattle.auth_tables.proofs.SpeakLaws.{speaks_iff}
use Rattle.auth_tables.proofs.laws.who_speaks_for_whom.Goals as goal

pub returns : goal.returns
returns c = speaks_iff
