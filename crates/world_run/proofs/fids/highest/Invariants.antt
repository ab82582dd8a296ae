-- the highest so far and that of those that are left are the highest of all
use Rattle.std.proofs.Common.{◌≡◌, drop, max}
use Rattle.world_history.specs.Acts.{highest}
use Rattle.world_run.specs.Fids.{fids}
use Rattle.world_run.proofs.fids.highest.Given as goal

abbrev pub invariant-loop-one : goal.invariant-loop-one
invariant-loop-one l = max l.found (highest (fids (drop l.one-index l.held))) ≡ highest (fids l.held)
