use Rattle.std.proofs.Common.{List, [], map}
use Rattle.prompters.specs.Manners.{Manner}
use Rattle.agent_hub.specs.Submits.{HubSeat, IsSeatOf}
use Rattle.agent_serving.specs.Prompting.{Speaks}
use Rattle.agent_serving.proofs.prompts.answer_all.Given as goal

abbrev pub invariant-loop : goal.invariant-loop
invariant-loop g l = record {
  seat : IsSeatOf l.hub l.seat;
  told : (whole : List Manner) (first : HubSeat) → Speaks l.conn whole (map (λ b. (g.dyn-1.0.entry b.vtable).1.manner b.value) l.fn.chain.list.items) first l.fn.seat []
      → Speaks l.conn whole (map (λ b. (g.dyn-1.0.entry b.vtable).1.manner b.value) l.chain.list.items) first l.seat [];
}
