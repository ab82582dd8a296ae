use Rattle.std.proofs.Common.{◌≡◌, ℕ, ◌+◌, ◌-◌, drop, take, ap, ◌∙◌, arith}
use Rattle.des_block.specs.Schedule.{deciphered_with}
use Rattle.sealing.specs.Sealing.{changed_at}
use Rattle.sealing.proofs.SealLemmas.{block_put, length-deciphered_with}
use Rattle.sealing.proofs.sealing.decrypt_at.Goals as goal

pub returns : goal.returns
unfolding changed_at
returns c =
    let eight : c.args.at + 8 - c.args.at ≡ 8 = omega arith in
    block_put c.args.text.now _ (deciphered_with c.args.schedule.now (take 8 (drop c.args.at c.args.text.now))) c.args.at
    (c.copy_from_slice-2.ensures.after ∙ c.decrypt.ensures.value
    ∙ ap (deciphered_with c.args.schedule.now) (c.copy_from_slice.ensures.after ∙ ap (λ (k : ℕ). take k (drop c.args.at c.args.text.now)) eight))
    (length-deciphered_with _ _)
