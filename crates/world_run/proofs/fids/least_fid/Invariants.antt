-- the least of so many from here on is the least of all
use Rattle.std.proofs.Common.{◌≡◌}
use Rattle.world_history.specs.Acts.{least_fid, least_from}
use Rattle.world_run.specs.Fids.{fids}
use Rattle.world_run.proofs.fids.least_fid.Given as goal

abbrev pub invariant-loop-left : goal.invariant-loop-left
invariant-loop-left l = least_from l.left l.fid (fids l.held) ≡ least_fid (fids l.held)

abbrev pub decreases-loop-left : goal.decreases-loop-left
decreases-loop-left l = l.left
