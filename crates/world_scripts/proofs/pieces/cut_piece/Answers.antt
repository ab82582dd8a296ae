use Rattle.std.proofs.Common.{◌==◌}
use Rattle.attr_tuples.proofs.WordCutLemmas.{split_found, split_missing}
use Rattle.world_scripts.proofs.pieces.cut_piece.Goals as goal

pub returns-in-Some-clause-parts : goal.returns-in-Some-clause-parts
returns-in-Some-clause-parts c =
    rw (c.split_at.ensures.front, c.split_at-in-Some.ensures.back, c.split_at.ensures.back)
    (split_found (λ b. b == 43) c.args.text.now c.in-Some.at c.in-Some.ensures)

pub returns-in-None-clause-parts : goal.returns-in-None-clause-parts
returns-in-None-clause-parts c = split_missing (λ b. b == 43) c.args.text.now c.in-None.ensures
