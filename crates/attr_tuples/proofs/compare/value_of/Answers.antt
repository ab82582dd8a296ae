use Rattle.std.proofs.Common.{option_map, sym, ap, ◌∙◌, arith}
use Rattle.std.proofs.lemmas.List.{take_all}
use Rattle.attr_tuples.specs.Matching.{texts_of, value_of}
use Rattle.attr_tuples.proofs.MatchLemmas.{none_yet, first_text, no_text}
use Rattle.attr_tuples.proofs.compare.value_of.Goals as goal

pub returns-in-Some : goal.returns-in-Some
returns-in-Some c =
    let attrs = c.attrs-attr-items.result.now in
    let found = first_text c.args.name.now attrs c.loop-attr.attr-index c.attr-item.result c.in-Some.text.now (omega arith) c.attr-item.is c.loop-attr.invariant (sym c.text_for.ensures ∙ ap (option_map (λ text. text.now)) c.in-Some.is) in
    sym found ∙ ap (value_of c.args.name.now) c.attrs-attr-items.ensures.same

pub loop-attr-preserved : goal.loop-attr-preserved
loop-attr-preserved c =
    none_yet c.args.name.now c.attrs-attr-items.result.now c.loop-attr.attr-index c.attr-item.result (omega arith) c.attr-item.is c.loop-attr.invariant (sym c.text_for.ensures ∙ ap (option_map (λ text. text.now)) c.in_default.is)

pub returns : goal.returns
returns c =
    let attrs = c.attrs-attr-items.result.now in
    let all = take_all c.loop-attr.attr-index attrs (omega arith) in
    sym (no_text c.args.name.now c.args.t.now (ap (texts_of c.args.name.now) (sym c.attrs-attr-items.ensures.same ∙ sym all) ∙ c.loop-attr.invariant))
