-- Those that were taken and those that are left are all that pass.
use Rattle.std.proofs.Common.{◌≡◌, ◌++◌, ◌-◌}
use Rattle.std.specs.Time.{instant_nanos}
use Rattle.sockets.specs.Failures.{failed_in, is_behind, those}
use Rattle.sockets.proofs.failures.Failures.add_failed.Given as goal

abbrev pub invariant-loop-server : goal.invariant-loop-server
invariant-loop-server l =
    l.order.items ++ those (λ i. is_behind (instant_nanos l.now) (failed_in l.self.servers i)) l.server (l.count - l.server)
    ≡ l.fn.order.items ++ those (λ i. is_behind (instant_nanos l.now) (failed_in l.self.servers i)) 0 l.count
