use Rattle.std.proofs.Common.{ℕ, length, replicate, refl, ap, ◌∙◌}
use Rattle.conv_p9sk1.proofs.PartLemmas.{joined}
use Rattle.conv_p9sk1.proofs.client.join_parts.Goals as goal

pub returns : goal.returns
returns c =
    joined c.copy_from_slice.new.self c.copy_from_slice-2.new.self (replicate 13 0) (ap (length {A = ℕ}) c.copy_from_slice.ensures.after ∙ c.requires) refl
    ∙ rw (c.copy_from_slice.ensures.after, c.copy_from_slice-2.ensures.after) refl
