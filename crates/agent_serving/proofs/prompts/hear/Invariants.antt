use Rattle.std.proofs.Common.{List, []}
use Rattle.prompters.specs.Manners.{Manner}
use Rattle.agent_hub.specs.Submits.{HubSeat, IsSeatOf}
use Rattle.agent_serving.specs.Prompting.{Speaks}
use Rattle.agent_serving.proofs.prompts.hear.Given as goal

abbrev pub invariant-loop : goal.invariant-loop
invariant-loop g l = record {
  seat : IsSeatOf l.hub l.seat;
  told : (chain now : List Manner) (first : HubSeat) → Speaks l.conn chain now first l.fn.seat [] → Speaks l.conn chain now first l.seat [];
}
