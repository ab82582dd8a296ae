-- The addresses so far and those of what is left are all of them.
use Rattle.std.proofs.Common.{◌≡◌, ◌++◌, length}
use Rattle.sockets.specs.Servers.{items_of}
use Rattle.sockets.proofs.servers.items_of.Given as goal

abbrev pub invariant-loop-items : goal.invariant-loop-items
invariant-loop-items l = l.items ++ items_of l.left ≡ items_of l.text

abbrev pub decreases-loop-items : goal.decreases-loop-items
decreases-loop-items l = length l.left
