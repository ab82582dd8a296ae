use Rattle.std.proofs.Common.{◌≡◌, ◌<◌, ◌^◌, ◌++◌, length, map, take, drop}
use Rattle.des_block.specs.Bits.{binary}
use Rattle.des_block.specs.Schedule.{round_keys}
use Rattle.des_block.proofs.schedule.make_round_keys.Given as goal

abbrev pub invariant-loop-i : goal.invariant-loop-i
invariant-loop-i l = (length l.keys ≡ 16) × (l.c < 2 ^ 28) × (l.d < 2 ^ 28) × (take l.i (map (binary 48) l.keys) ++ round_keys (drop l.i l.shifts) (binary 28 l.c) (binary 28 l.d) ≡ round_keys l.shifts (binary 28 l.fn.c) (binary 28 l.fn.d))
