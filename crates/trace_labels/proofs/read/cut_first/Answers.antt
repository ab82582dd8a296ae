use Rattle.std.proofs.Common.{◌≡◌, rules, ap, sym, ◌∙◌, [], ◌∷◌}
use Rattle.attr_tuples.specs.Cutting.{lines_left}
use Rattle.trace_labels.specs.Labels.{label_lines}
use Rattle.trace_labels.proofs.ReadLaws.{first_on, first_end}
use Rattle.trace_labels.proofs.read.cut_first.Goals as goal

pub returns-in-Some-clause-parts : goal.returns-in-Some-clause-parts
returns-in-Some-clause-parts c = first_on c.args.text.now c.cut_line.result.0.now c.in-Some.rest.now (c.cut_line.ensures.lines ∙ ap (λ r. c.cut_line.result.0.now ∷ lines_left r) c.in-Some.is)

pub returns-in-None-clause-parts : goal.returns-in-None-clause-parts
returns-in-None-clause-parts c =
    let none_left : c.as_slice.result.now ≡ [] = search rules in
    first_end c.args.text.now c.cut_line.result.0.now (c.cut_line.ensures.lines ∙ ap (λ r. c.cut_line.result.0.now ∷ lines_left r) c.in-None.is) c.requires
    ∙ ap (λ r. c.cut_line.result.0.now ∷ label_lines r) (sym none_left)
