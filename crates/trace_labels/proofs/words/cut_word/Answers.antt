use Rattle.std.proofs.Common.{◌==◌}
use Rattle.attr_tuples.proofs.WordCutLemmas.{split_found, split_missing}
use Rattle.trace_labels.proofs.words.cut_word.Goals as goal

pub returns-in-Some : goal.returns-in-Some
returns-in-Some c =
    rw (c.split_at.ensures.front, c.split_at-in-Some.ensures.back, c.split_at.ensures.back)
    (split_found (λ b. b == 32) c.args.text.now c.in-Some.at c.in-Some.ensures)

pub returns-in-None : goal.returns-in-None
returns-in-None c = split_missing (λ b. b == 32) c.args.text.now c.in-None.ensures
