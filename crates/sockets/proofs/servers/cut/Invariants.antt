-- No comma was met so far.
use Rattle.std.proofs.Common.{◌≡◌, take, drop}
use Rattle.sockets.specs.Servers.{items_of}
use Rattle.sockets.proofs.ServerLemmas.{with_front}
use Rattle.sockets.proofs.servers.cut.Given as goal

abbrev pub invariant-loop-at : goal.invariant-loop-at
invariant-loop-at l = items_of l.text ≡ with_front (take l.at l.text) (items_of (drop l.at l.text))
