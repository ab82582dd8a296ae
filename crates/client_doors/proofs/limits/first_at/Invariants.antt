use Rattle.std.proofs.Common.{◌≡◌, ◌+◌, drop}
use Rattle.client_doors.specs.Inside.{first_at}
use Rattle.client_doors.proofs.limits.first_at.Given as goal

abbrev pub invariant-loop-one : goal.invariant-loop-one
invariant-loop-one l = (first_at l.address l.inside ≡ l.at + first_at l.address (drop l.one-index l.inside)) × (l.at ≡ l.one-index)
