use Rattle.std.proofs.Common.{◌≡◌}
use Rattle.sockets.proofs.connection.SocketSinkSink.write.Given as goal

-- no fault was counted so far
abbrev pub invariant-loop : goal.invariant-loop
invariant-loop l = l.self.faults ≡ l.fn.self.faults
