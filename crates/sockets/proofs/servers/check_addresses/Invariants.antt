-- The first fault of what is left is that of all.
use Rattle.std.proofs.Common.{◌≡◌, ◌≤◌, ◌-◌}
use Rattle.sockets.specs.Servers.{first_fault, items_of}
use Rattle.sockets.specs.declared.servers.TheConstants.{MOST_SERVERS}
use Rattle.sockets.proofs.servers.check_addresses.Given as goal

abbrev pub invariant-loop-taken : goal.invariant-loop-taken
invariant-loop-taken l = record {
  same : first_fault l.taken (items_of l.left) ≡ first_fault 0 (items_of l.fn.text);
  few : l.taken ≤ MOST_SERVERS;
}

abbrev pub decreases-loop-taken : goal.decreases-loop-taken
decreases-loop-taken l = MOST_SERVERS - l.taken
