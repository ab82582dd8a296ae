-- What the digits that are left make of the number so far is what all of them make.
use Rattle.std.proofs.Common.{◌≡◌, ◌≤◌, drop}
use Rattle.sockets.specs.Servers.{port_behind}
use Rattle.sockets.specs.declared.servers.TheConstants.{MOST_PORT}
use Rattle.sockets.proofs.servers.is_port.Given as goal

abbrev pub invariant-loop-digit : goal.invariant-loop-digit
invariant-loop-digit l = record {
  same : port_behind l.port (drop l.digit-index l.digits) ≡ port_behind 0 l.digits;
  small : l.port ≤ MOST_PORT;
}
