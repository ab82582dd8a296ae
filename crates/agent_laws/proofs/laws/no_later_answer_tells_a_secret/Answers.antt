use Rattle.agent_laws.proofs.AlikeLaws.{no_answer_tells}
use Rattle.agent_laws.proofs.SecretLaws.{does_open}
use Rattle.agent_laws.proofs.laws.no_later_answer_tells_a_secret.Goals as goal

pub returns : goal.returns
returns c history more event one other same none = no_answer_tells history more event one other (does_open history one) same none
