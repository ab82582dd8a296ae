use Rattle.std.proofs.Common.{◌≡◌, ℕ, ◌<◌, length, get_or}
use Rattle.sealing.specs.Keys.{with_parity, group_of_seven}
use Rattle.sealing.proofs.keys.expand56.Given as goal

abbrev pub invariant-loop-i : goal.invariant-loop-i
invariant-loop-i l = (length l.bytes ≡ 8) × ((k : ℕ) → k < l.i → get_or l.bytes k 0 ≡ with_parity (group_of_seven l.bits k))
