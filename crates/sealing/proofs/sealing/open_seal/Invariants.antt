use Rattle.std.proofs.Common.{◌≡◌, ◌*◌, ◌/◌, map, reverse}
use Rattle.std.specs.List.{fold, range_with_len}
use Rattle.des_block.specs.Schedule.{deciphered_with}
use Rattle.sealing.specs.Sealing.{changed_at}
use Rattle.sealing.proofs.sealing.open_seal.Given as goal

abbrev pub invariant-loop-i : goal.invariant-loop-i
invariant-loop-i l =
    fold (changed_at (deciphered_with l.schedule)) l.text (reverse (map (λ i. 7 * i) (range_with_len 0 l.i)))
    ≡ fold (changed_at (deciphered_with l.schedule)) l.initial.text (reverse (map (λ i. 7 * i) (range_with_len 0 (l.last / 7))))
