use Rattle.std.proofs.Common.{refl, sym}
use Rattle.world_scripts.proofs.CutLemmas.{cut_found, cut_missing}
use Rattle.world_scripts.proofs.words.cut_at.Goals as goal

pub returns-in_err-at : goal.returns-in_err-at
returns-in_err-at c = rw (c.from_residual.ensures, cut_missing c.args.byte c.args.text.now c.in_err-at.ensures) refl

pub returns : goal.returns
returns c = rw (c.split_at.ensures.front, c.split_at-2.ensures.back, c.split_at.ensures.back) (sym (cut_found c.args.byte c.args.text.now c.in_ok-at.at c.in_ok-at.ensures))
