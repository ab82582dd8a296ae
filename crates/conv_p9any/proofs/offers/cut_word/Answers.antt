use Rattle.std.proofs.Common.{◌==◌}
use Rattle.attr_tuples.proofs.WordCutLemmas.{split_found, split_missing}
use Rattle.conv_p9any.proofs.offers.cut_word.Goals as goal

pub returns-in-Some-clause-words : goal.returns-in-Some-clause-words
returns-in-Some-clause-words c =
    rw (c.split_at.ensures.front, c.split_at-in-Some.ensures.back, c.split_at.ensures.back)
    (split_found (λ b. b == 32) c.args.text.now c.in-Some.at c.in-Some.ensures)

pub returns-in-None-clause-words : goal.returns-in-None-clause-words
returns-in-None-clause-words c = split_missing (λ b. b == 32) c.args.text.now c.in-None.ensures
