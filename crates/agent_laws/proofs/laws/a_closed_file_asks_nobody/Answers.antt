use Rattle.agent_laws.proofs.ClosedLaws.{closed_asks_nobody, none_asks_consent, none_asks_key}
use Rattle.agent_laws.proofs.laws.a_closed_file_asks_nobody.Goals as goal

pub returns : goal.returns
returns c = record { consent = none_asks_consent; key = none_asks_key; ended = closed_asks_nobody }
