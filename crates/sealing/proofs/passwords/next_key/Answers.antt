use Rattle.std.proofs.Common.{◌≡◌, ℕ, ◌+◌, ◌-◌, length, drop, take, ap, ◌∙◌, arith}
use Rattle.std.proofs.lemmas.List.{length-drop, length-take-le}
use Rattle.sealing.specs.Sealing.{changed_at, sealed}
use Rattle.sealing.proofs.SealLaws.{length-sealed}
use Rattle.sealing.proofs.SealLemmas.{block_put}
use Rattle.sealing.proofs.passwords.next_key.Goals as goal

pub returns-clause-window : goal.returns-clause-window
unfolding changed_at
returns-clause-window c =
    let at = c.args.at in
    let window = take 8 (drop at c.args.buffer.now) in
    let eight : at + 8 - at ≡ 8 = omega arith in
    let long : length window ≡ 8 = length-take-le 8 (drop at c.args.buffer.now) (omega (arith, length-drop at c.args.buffer.now)) in
    block_put c.args.buffer.now _ (sealed c.args.key.now.0 window) at
    (c.seal.ensures.value ∙ ap (λ (k : ℕ). sealed c.args.key.now.0 (take k (drop at c.args.buffer.now))) eight)
    (length-sealed c.args.key.now.0 window (omega arith) ∙ long)
