use Rattle.std.proofs.Common.{◌≡◌, length}
use Rattle.sockets.specs.Asking.{SameBut}
use Rattle.sockets.proofs.socket.TcpDialer.ask_places.Given as goal

abbrev pub invariant-loop-left : goal.invariant-loop-left
invariant-loop-left g l = record {
  room : length l.room ≡ length l.fn.room;
  others : SameBut l.fn.self l.self;
  failures : g.F.Recalls.failed l.self.failures ≡ g.F.Recalls.failed l.fn.self.failures;
}

abbrev pub decreases-loop-left : goal.decreases-loop-left
decreases-loop-left g l = length l.left
