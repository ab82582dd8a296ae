use Rattle.agent_laws.proofs.ReplyLaws.{frames_put_out, given_and_left, given_in_order, left_after_take}
use Rattle.agent_laws.proofs.laws.a_reply_is_taken_once.Goals as goal

pub returns : goal.returns
returns c = record {
  in_order = given_in_order;
  with_the_rest = given_and_left;
  next_after = left_after_take;
  frames = frames_put_out;
}
