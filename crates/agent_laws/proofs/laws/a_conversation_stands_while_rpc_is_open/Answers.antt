use Rattle.agent_laws.proofs.ConversationLaws.{few_speak, openers_speak, speak_once, speakers_rise}
use Rattle.agent_laws.proofs.laws.a_conversation_stands_while_rpc_is_open.Goals as goal

pub returns : goal.returns
returns c = record {
  openers = openers_speak;
  once = speak_once;
  few = few_speak;
  numbers = speakers_rise;
}
