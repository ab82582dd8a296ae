use Rattle.std.proofs.Common.{ℕ, ◌*◌, ◌/◌, ◌%◌, ◌^◌, ◌≡◌, ◌<◌, ap, arith, ◌∙◌, bit_or, bit_and}
use Rattle.std.proofs.lemmas.Nat.{and_mask}
use Rattle.des_block.specs.Bits.{binary}
use Rattle.des_block.proofs.TableLaws.{wide_bits, wide_is}
use Rattle.des_block.proofs.rounds.widened.Goals as goal

pub returns : goal.returns
returns c =
    let n = c.from-bits.result in
    let small : n < 2 ^ 32 = omega (arith, c.from-bits.ensures) in
    let low : bit_and n 1 * 2 ^ 33 % 2 ^ 64 ≡ n % 2 * 2 ^ 33 = omega (arith, and_mask n 1) in
    let mid : n * 2 % 2 ^ 64 ≡ n * 2 = omega arith in
    ap (λ (m : ℕ). binary 34 (bit_or (bit_or m (n * 2 % 2 ^ 64)) (n / 2 ^ 31))) low
    ∙ ap (λ (m : ℕ). binary 34 (bit_or (bit_or (n % 2 * 2 ^ 33) m) (n / 2 ^ 31))) mid
    ∙ wide_is n small
    ∙ ap wide_bits c.from-bits.ensures
