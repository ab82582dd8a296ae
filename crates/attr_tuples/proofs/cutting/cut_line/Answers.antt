use Rattle.std.proofs.Common.{◌==◌}
use Rattle.attr_tuples.proofs.WordCutLemmas.{split_found, split_missing}
use Rattle.attr_tuples.proofs.cutting.cut_line.Goals as goal

pub returns-in-Some-clause-lines : goal.returns-in-Some-clause-lines
returns-in-Some-clause-lines c =
    rw (c.split_at.ensures.front, c.split_at-in-Some.ensures.back, c.split_at.ensures.back)
    (split_found (λ b. b == 10) c.args.text.now c.in-Some.at c.in-Some.ensures)

pub returns-in-None-clause-lines : goal.returns-in-None-clause-lines
returns-in-None-clause-lines c = split_missing (λ b. b == 10) c.args.text.now c.in-None.ensures
