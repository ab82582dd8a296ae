use Rattle.std.proofs.Common.{◌≡◌, ◌-◌, ◌≤◌, List, ◌++◌, length, sym, ap, ◌∙◌, arith}
use Rattle.std.specs.List.{filter}
use Rattle.std.proofs.lemmas.List.{take_all}
use Rattle.attr_tuples.specs.declared.attr.Attr.{Attr}
use Rattle.attr_tuples.specs.Attributes.{is_tuple}
use Rattle.attr_tuples.specs.Merging.{is_new}
use Rattle.attr_tuples.proofs.MergeLemmas.{merged_fits}
use Rattle.attr_tuples.proofs.merging.merge.Goals as goal

pub from_vec-requires : goal.from_vec-requires
from_vec-requires c =
    let a = c.args.a.now in
    let b = c.args.b.now in
    let count_is : c.count_new.result ≡ length (filter (is_new a) b) =
    c.count_new.ensures ∙ ap (λ (x : List Attr). length (filter (is_new x) c.attrs-2.result.now)) c.attrs.ensures.same ∙ ap (λ (x : List Attr). length (filter (is_new a) x)) c.attrs-2.ensures.same in
    let few : c.count_new.result ≤ 36 - length a = omega (arith, ap (length {A = Attr}) c.attrs-3.ensures.same) in
    let all = take_all c.loop-attr.attr-index c.attrs-attr-items.result.now (omega arith) ∙ c.attrs-attr-items.ensures.same in
    merged_fits a b c.loop-attr.list.items c.count_new.result (ap is_tuple (sym c.attrs.ensures.same) ∙ c.attrs.ensures.valid) (ap is_tuple (sym c.attrs-2.ensures.same) ∙ c.attrs-2.ensures.valid) count_is few
    (c.loop-attr.invariant ∙ ap (λ (x : List Attr). a ++ filter (is_new a) x) all)
