use Rattle.std.proofs.Common.{ℕ, List, drop, sym, ap, ◌∙◌, arith}
use Rattle.attr_tuples.specs.Words.{first_word, unquote, prefixed}
use Rattle.attr_tuples.specs.declared.word.Place.TheVariants.{Outside}
use Rattle.attr_tuples.proofs.WordLemmas.{prefixed_none}
use Rattle.attr_tuples.proofs.word.take_word.Goals as goal

pub loop-next-init : goal.loop-next-init
unfolding first_word
loop-next-init c =
    let reading = unquote Outside c.args.at (drop c.args.at c.args.text.now) in
    (omega arith, omega arith, sym (prefixed_none reading) ∙ ap (λ (word : List ℕ). prefixed word reading) (sym c.clear.ensures))
