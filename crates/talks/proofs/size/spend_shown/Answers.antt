use Rattle.std.proofs.Common.{Option, List, ℕ, ap, ◌∙◌}
use Rattle.std.specs.Prelude.{codes}
use Rattle.attr_tuples.specs.declared.attr.Attr.{Attr}
use Rattle.attr_tuples.specs.Printing.{printed_text}
use Rattle.roles.specs.Templates.{shown_text}
use Rattle.talks.specs.Sizes.{behind}
use Rattle.talks.proofs.SizeLemmas.{behind_both, seen_as_is}
use Rattle.talks.proofs.size.spend_shown.Goals as goal

pub returns : goal.returns
unfolding shown_text
returns c =
    let same = seen_as_is c.attrs.result.now ∙ c.attrs.ensures.same in
    let shown = c.spend_seen-budget.ensures ∙ ap (λ (attrs : List Attr). behind c.args.budget (printed_text attrs)) same in
    let spent = c.spend_text.ensures ∙ ap (λ (bytes : List ℕ). behind c.spend_seen-budget.result bytes) c.as_slice.ensures in
    spent ∙ (ap (λ (b : Option ℕ). behind b (codes " !password?")) shown ∙ behind_both c.args.budget (printed_text c.args.template.now) (codes " !password?"))
