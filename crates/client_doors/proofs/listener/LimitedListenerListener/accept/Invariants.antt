use Rattle.std.proofs.Common.{◌≡◌}
use Rattle.client_doors.specs.Doors.{Stays, told}
use Rattle.client_doors.proofs.listener.LimitedListenerListener.accept.Given as goal

-- nobody was let in so far, and accepting didn't fail
abbrev pub invariant-loop : goal.invariant-loop
invariant-loop g l = record {
  stays : Stays (told g.L.In.HasAddress.address_of (g.D.Door.seen l.fn.self.door) (g.L.Listener.to_come l.fn.self.inner)) (told g.L.In.HasAddress.address_of (g.D.Door.seen l.self.door) (g.L.Listener.to_come l.self.inner));
  faults : g.L.Listener.faults l.self.inner ≡ g.L.Listener.faults l.fn.self.inner;
}
