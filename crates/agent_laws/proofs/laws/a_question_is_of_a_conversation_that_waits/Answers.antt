use Rattle.agent_laws.proofs.ConversationLaws.{questions_rise}
use Rattle.agent_laws.proofs.GrowLaws.{all_are_asked}
use Rattle.agent_laws.proofs.PutLaws.{question_is_put}
use Rattle.agent_laws.proofs.RaiseLaws.{others_raise_none, requests_raise_one}
use Rattle.agent_laws.proofs.laws.a_question_is_of_a_conversation_that_waits.Goals as goal

pub returns : goal.returns
returns c = record {
  asked = all_are_asked;
  numbers = questions_rise;
  put = question_is_put;
  one = requests_raise_one;
  others = others_raise_none;
}
