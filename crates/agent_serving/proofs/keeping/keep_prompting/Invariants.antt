use Rattle.std.proofs.Common.{map}
use Rattle.agent_hub.specs.Submits.{IsSeatOf}
use Rattle.agent_serving.specs.Keeping.{Keeping}
use Rattle.agent_serving.proofs.keeping.keep_prompting.Given as goal

abbrev pub invariant-loop : goal.invariant-loop
invariant-loop g l = record {
  seat : IsSeatOf l.hub l.seat;
  kept : Keeping l.fn.conn (map (λ b. (g.dyn-1.0.entry b.vtable).1.manner b.value) l.fn.chain.list.items) l.fn.seat l.conn (map (λ b. (g.dyn-1.0.entry b.vtable).1.manner b.value) l.chain.list.items) l.seat (g.T.Tells.told l.fn.ends) (g.T.Tells.told l.ends);
}
