use Rattle.agent_laws.proofs.ClosedLaws.{all_follow}
use Rattle.agent_laws.proofs.GrowLaws.{all_are_known}
use Rattle.agent_laws.proofs.laws.a_user_is_asked_for_a_conversation_that_waits.Goals as goal

pub returns : goal.returns
returns c = record { asked = λ history kind. (all_are_known history).prompted kind; follows = all_follow }
