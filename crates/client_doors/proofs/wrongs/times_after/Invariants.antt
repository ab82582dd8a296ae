use Rattle.std.proofs.Common.{◌≡◌, ◌-◌, ◌∷◌, take}
use Rattle.client_doors.specs.declared.wrongs.TheConstants.{MOST_TIMES}
use Rattle.client_doors.proofs.wrongs.times_after.Given as goal

abbrev pub invariant-loop-time : goal.invariant-loop-time
invariant-loop-time l = l.after ≡ l.now ∷ take l.time-index (take (MOST_TIMES - 1) l.times)
