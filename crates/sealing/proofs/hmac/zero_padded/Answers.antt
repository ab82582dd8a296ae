-- What follows the key in the block is what is left of 64 zeros.
use Rattle.std.proofs.Common.{arith, ℕ, length}
use Rattle.std.proofs.lemmas.List.{drop-replicate}
use Rattle.std.proofs.lemmas.Grind.{common_steps}
use Rattle.sealing.proofs.hmac.zero_padded.Goals as goal

pub returns : goal.returns
returns c = grind (arith, common_steps, drop-replicate {X = ℕ} (length c.args.key.now) 64 0)
