use Rattle.std.proofs.Common.{◌≡◌, ℕ, ◌+◌, ◌-◌, ◌*◌, ◌/◌, ◌%◌, ◌^◌, ◌<◌, length, get_or}
use Rattle.sealing.proofs.passwords.make_key.Given as goal

abbrev pub invariant-loop-i : goal.invariant-loop-i
invariant-loop-i l =
    (length l.key ≡ 7) × ((k : ℕ) → k < l.i → get_or l.key k 0 ≡ (get_or l.window k 0 / 2 ^ k + get_or l.window (k + 1) 0 * 2 ^ (7 - k)) % 256)
