use Rattle.std.proofs.Common.{◌-◌, Option, ℕ, length, take, drop, ap, ◌∙◌, arith}
use Rattle.attr_tuples.specs.Printing.{attr_text}
use Rattle.talks.specs.Sizes.{behind, seen, others_text}
use Rattle.talks.proofs.SizeLemmas.{behind_both, first_and_others}
use Rattle.talks.proofs.size.spend_seen.Goals as goal

pub returns : goal.returns
returns c =
    let attrs = c.args.attrs.now in
    let first = attr_text (seen c.args.secrets c.first-item.result) in
    let others = others_text c.args.secrets (take (length attrs - 1) (drop 1 attrs)) in
    c.spend_others.ensures ∙ (ap (λ (b : Option ℕ). behind b others) c.spend_attr-budget.ensures
    ∙ (behind_both c.args.budget first others ∙ ap (behind c.args.budget) (first_and_others c.args.secrets attrs c.first-item.result (omega arith) c.first-item.is)))
