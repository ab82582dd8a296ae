use Rattle.std.proofs.Common.{◌≡◌, ◌*◌, map}
use Rattle.std.specs.List.{fold, range_with_len}
use Rattle.des_block.specs.Schedule.{enciphered_with}
use Rattle.sealing.specs.Sealing.{changed_at}
use Rattle.sealing.proofs.sealing.seal.Given as goal

abbrev pub invariant-loop-i : goal.invariant-loop-i
invariant-loop-i l = l.text ≡ fold (changed_at (enciphered_with l.schedule)) l.fn.text (map (λ i. 7 * i) (range_with_len 0 l.i))
