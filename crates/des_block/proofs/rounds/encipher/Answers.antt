use Rattle.std.proofs.Common.{ℕ, ◌≡◌, ◌*◌, ◌/◌, ◌%◌, ◌^◌, map, refl, ap, arith, ◌∙◌, bit_or}
use Rattle.std.proofs.lemmas.Nat.{and_mask, or_shifted}
use Rattle.des_block.specs.Bits.{binary, permuted}
use Rattle.des_block.specs.Tables.{IP, IP_inverse}
use Rattle.des_block.specs.Rounds.{after_rounds}
use Rattle.des_block.proofs.TableLaws.{block_is}
use Rattle.des_block.proofs.rounds.encipher.Goals as goal

pub returns : goal.returns
unfolding IP IP_inverse permuted
returns c =
    let mid = c.look_up-block.result in
    let left = c.run_rounds-left.result.0 in
    let right = c.run_rounds-left.result.1 in
    let keys = map (binary 48) c.args.keys.now in
    block_is keys c.args.block mid left right _ c.look_up.result (c.look_up-block.ensures IP refl)
    (c.run_rounds-left.ensures ∙ ap (λ (n : ℕ). after_rounds keys (binary 32 (mid / 2 ^ 32)) (binary 32 n)) (and_mask mid 32))
    (omega (arith, c.from-2.ensures))
    (ap (λ (n : ℕ). bit_or n c.from-2.result) (let e : c.from.result * 2 ^ 32 % 2 ^ 64 ≡ c.from.result * 2 ^ 32 = omega (arith, c.from.ensures) in e)
    ∙ or_shifted c.from.result 32 c.from-2.result (omega (arith, c.from-2.ensures)) ∙ omega (arith, c.from.ensures, c.from-2.ensures))
    (c.look_up.ensures IP_inverse refl)
