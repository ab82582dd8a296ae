use Rattle.std.proofs.Common.{◌≡◌, ◌<◌, ◌≤◌, length}
use Rattle.std.specs.List.{AllByRecursion}
use Rattle.sockets.specs.Asking.{SameBut}
use Rattle.sockets.specs.declared.servers.TheConstants.{MOST_SERVERS}
use Rattle.sockets.proofs.AskingLemmas.{Going}
use Rattle.sockets.proofs.socket.TcpDialer.ask_in_order.Given as goal

abbrev pub invariant-loop-server : goal.invariant-loop-server
invariant-loop-server g l = record {
  each : AllByRecursion (λ i. i < length l.fn.self.servers) l.left;
  few : length l.fn.self.servers ≤ MOST_SERVERS;
  room : length l.room ≡ length l.fn.room;
  others : SameBut l.fn.self l.self;
  going : Going l.fn.order l.left (g.F.Recalls.failed l.fn.self.failures) (g.F.Recalls.failed l.self.failures);
}

abbrev pub decreases-loop-server : goal.decreases-loop-server
decreases-loop-server g l = length l.left
