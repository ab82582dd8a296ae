use Rattle.std.proofs.Common.{◌≡◌, ◌≤◌}
use Rattle.agent_hub.specs.Submits.{IsSeatOf}
use Rattle.agent_serving.specs.declared.job.Job.{Job}
use Rattle.agent_serving.specs.Jobs.{seat_of}
use Rattle.agent_serving.specs.Serving.{Asking}
use Rattle.agent_serving.proofs.accept.begin_asks.Given as goal

-- so many jobs that ask were taken
abbrev pub invariant-loop : goal.invariant-loop
invariant-loop g l = record {
  seat : IsSeatOf l.hub l.seat;
  takes : (job : Job g.row.I.Denot g.row.O.Denot) → IsSeatOf l.hub (seat_of job) → g.P.Spawner.takes l.spawner job;
  asking : Asking {I = g.row.I.Denot} {O = g.row.O.Denot} l.fn.seat l.seat (g.P.Spawner.taken l.fn.spawner) (g.P.Spawner.taken l.spawner) l.counter;
  jobs : g.P.Spawner.faults l.fn.spawner ≤ g.P.Spawner.faults l.spawner;
}
