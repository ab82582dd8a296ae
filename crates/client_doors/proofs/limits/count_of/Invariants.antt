use Rattle.std.proofs.Common.{◌≡◌, ◌+◌, ◌≤◌, drop}
use Rattle.client_doors.specs.Inside.{count_of}
use Rattle.client_doors.proofs.limits.count_of.Given as goal

abbrev pub invariant-loop-one : goal.invariant-loop-one
invariant-loop-one l = (count_of l.address l.inside ≡ l.count + count_of l.address (drop l.one-index l.inside)) × (l.count ≤ l.one-index)
