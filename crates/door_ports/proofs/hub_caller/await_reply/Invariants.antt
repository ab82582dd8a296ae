use Rattle.std.proofs.Common.{List, ℕ}
use Rattle.agent_hub.specs.Submits.{HubSeat, IsSeatOf}
use Rattle.door_ports.specs.Exchanges.{Exchange}
use Rattle.door_ports.specs.Hubs.{Waits}
use Rattle.door_ports.proofs.hub_caller.await_reply.Given as goal

abbrev pub invariant-loop : goal.invariant-loop
invariant-loop g l = record {
  seat : IsSeatOf l.hub l.seat;
  waits : (first : HubSeat) (done : List Exchange) (frame word : List ℕ) → Waits first done l.conn frame word l.fn.seat → Waits first done l.conn frame word l.seat;
}
