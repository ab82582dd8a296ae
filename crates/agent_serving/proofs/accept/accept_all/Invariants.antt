use Rattle.std.proofs.Common.{◌≡◌, ◌≤◌}
use Rattle.agent_hub.specs.Submits.{IsSeatOf}
use Rattle.agent_serving.specs.declared.job.Job.{Job}
use Rattle.agent_serving.specs.Jobs.{seat_of}
use Rattle.agent_serving.specs.Serving.{Going}
use Rattle.agent_serving.proofs.accept.accept_all.Given as goal

-- the connections accepted so far were opened, and their jobs taken or lost
abbrev pub invariant-loop : goal.invariant-loop
invariant-loop g l = record {
  seat : IsSeatOf l.hub l.seat;
  takes : (job : Job g.row.L-In.Denot g.row.L-Out.Denot) → IsSeatOf l.hub (seat_of job) → g.P.Spawner.takes l.spawner job;
  going : Going {I = g.row.L-In.Denot} {O = g.row.L-Out.Denot} l.asks l.fn.seat l.seat (g.L.Listener.to_come l.fn.listener) (g.L.Listener.to_come l.listener) (g.P.Spawner.taken l.fn.spawner) (g.P.Spawner.taken l.spawner) (g.P.Spawner.faults l.fn.spawner) (g.P.Spawner.faults l.spawner) l.conn;
  accepts : g.L.Listener.faults l.fn.listener ≤ g.L.Listener.faults l.listener;
  jobs : g.P.Spawner.faults l.fn.spawner ≤ g.P.Spawner.faults l.spawner;
}
