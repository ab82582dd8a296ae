use Rattle.std.proofs.Common.{◌≡◌, ℕ, ◌-◌, ◌++◌, List, length, take, drop, OnOk, ap, subst, ◌∙◌, append_assoc, arith}
use Rattle.attr_tuples.specs.Printing.{attr_text}
use Rattle.attr_tuples.specs.Steps.{seen, others_text}
use Rattle.attr_tuples.proofs.PrintLemmas.{first_and_others}
use Rattle.attr_tuples.proofs.print.append_attrs.Goals as goal

pub returns-clause-ok : goal.returns-clause-ok
returns-clause-ok c =
    let attrs = c.args.attrs.now in
    let first = attr_text (seen c.args.secrets c.first-item.result) in
    let others = others_text c.args.secrets (take (length attrs - 1) (drop 1 attrs)) in
    let text = first_and_others c.args.secrets attrs c.first-item.result (omega arith) c.first-item.is in
    subst (λ (t : List ℕ). OnOk c.append_others.result (c.append_others.new.out ≡ t))
    (ap (λ (t : List ℕ). t ++ others) c.in_ok-append_attr.ensures.ok ∙ append_assoc c.args.out.now first others ∙ ap (λ (t : List ℕ). c.args.out.now ++ t) text)
    c.append_others.ensures.ok
