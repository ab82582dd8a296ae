use Rattle.agent_laws.proofs.DropHistoryLaws.{drop_is_put, drops_come_once, drops_follow_challenges, nothing_is_put}
use Rattle.agent_laws.proofs.laws.a_connection_is_given_up_once.Goals as goal

pub returns : goal.returns
returns c = record {
  put = drop_is_put;
  nothing = nothing_is_put;
  once = drops_come_once;
  behind = drops_follow_challenges;
}
