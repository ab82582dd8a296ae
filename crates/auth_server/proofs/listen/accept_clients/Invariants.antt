use Rattle.std.proofs.Common.{◌≡◌, ◌≤◌}
use Rattle.std.specs.Arc.{arc_value}
use Rattle.auth_server.specs.Clients.{Client, Going}
use Rattle.auth_server.proofs.listen.accept_clients.Given as goal

-- the clients accepted so far were given to threads
abbrev pub invariant-loop : goal.invariant-loop
invariant-loop g l = record {
  takes : (job : Client g.row.L-In.Denot g.row.L-Out.Denot) → job.core ≡ arc_value l.core → g.P.Spawner.takes l.spawner job;
  going : Going {I = g.row.L-In.Denot} {O = g.row.L-Out.Denot} (arc_value l.core) (g.L.Listener.to_come l.fn.listener) (g.L.Listener.to_come l.listener) (g.P.Spawner.taken l.fn.spawner) (g.P.Spawner.taken l.spawner);
  accepts : g.L.Listener.faults l.fn.listener ≤ g.L.Listener.faults l.listener;
  jobs : g.P.Spawner.faults l.fn.spawner ≤ g.P.Spawner.faults l.spawner;
}
