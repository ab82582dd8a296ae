use Rattle.std.proofs.Common.{◌≡◌, ◌<◌, ◌∙◌, List, length, None, subst, ap, arith, rules}
use Rattle.std.specs.Vec.{vec_len, vec_capacity}
use Rattle.std.proofs.lemmas.Bool.{cond-true}
use Rattle.wire_base.specs.declared.range.Range.{Range}
use Rattle.wire_base.specs.Spans.{AreApart, Numbers}
use Rattle.wire_base.proofs.PlaceLemmas.{bounded}
use Rattle.wire_base.proofs.AddLemmas.{Adds}
use Rattle.wire_base.proofs.WriteLemmas.{joined_written, one_written, wide_written}
use Rattle.wire_base.proofs.ranges.Ranges.add.Goals as goal

pub insert-requires : goal.insert-requires
insert-requires c =
    let same = ap (λ (s : Numbers). s.ranges) c.self.view_is in
    let few = bounded c.saturating_sub.result c.args.self.now.ranges in
    omega (arith, few, c.ends_before-at.ensures.place, ap (λ (l : List Range). length l) same)

pub invariant_of-self : goal.invariant_of-self
invariant_of-self c =
    let v = c.self.inside.ranges in
    let rs : List Range = c.args.self.now.ranges in
    let room : vec_len v < vec_capacity v = omega (arith, c.requires, ap (λ (s : Numbers). s.room) c.self.view_is) in
    let none : c.beside.result ≡ None = search rules in
    let adds : Adds c.args.number rs c.insert.new.self.items =
    one_written c.args.number c.saturating_sub.result c.ends_before-at.result rs v.items c.insert.new.self.items c.beside.result
    (subst (λ (s : Numbers). AreApart s.ranges) c.self.view_is c.self.invariant) (ap (λ (s : Numbers). s.ranges) c.self.view_is)
    c.ends_before-at.ensures.place c.saturating_sub.ensures c.beside.ensures none (c.insert.ensures.items ∙ cond-true _ _ _ (c.insert.ensures.succeeds room)) in
    adds.apart

pub returns-in_default-clause-added : goal.returns-in_default-clause-added
returns-in_default-clause-added c =
    let v = c.self.inside.ranges in
    let rs : List Range = c.args.self.now.ranges in
    let room : vec_len v < vec_capacity v = omega (arith, c.requires, ap (λ (s : Numbers). s.room) c.self.view_is) in
    let none : c.beside.result ≡ None = search rules in
    let adds : Adds c.args.number rs c.insert.new.self.items =
    one_written c.args.number c.saturating_sub.result c.ends_before-at.result rs v.items c.insert.new.self.items c.beside.result
    (subst (λ (s : Numbers). AreApart s.ranges) c.self.view_is c.self.invariant) (ap (λ (s : Numbers). s.ranges) c.self.view_is)
    c.ends_before-at.ensures.place c.saturating_sub.ensures c.beside.ensures none (c.insert.ensures.items ∙ cond-true _ _ _ (c.insert.ensures.succeeds room)) in
    adds.added

pub invariant_of-self-in_default-beside : goal.invariant_of-self-in_default-beside
invariant_of-self-in_default-beside c =
    let none : c.beside-2.result ≡ None = search rules in
    let adds = wide_written c.args.number c.saturating_sub.result c.ends_before-at.result c.args.self.now.ranges c.self.inside.ranges.items c.in-Some.range c.with-range.result c.beside.result c.beside-2.result
    (subst (λ (s : Numbers). AreApart s.ranges) c.self.view_is c.self.invariant) (ap (λ (s : Numbers). s.ranges) c.self.view_is)
    c.ends_before-at.ensures.place c.saturating_sub.ensures c.beside.ensures c.in-Some.is c.with-range.ensures c.beside-2.ensures none in
    adds.apart

pub returns-in_default-beside-clause-added : goal.returns-in_default-beside-clause-added
returns-in_default-beside-clause-added c =
    let none : c.beside-2.result ≡ None = search rules in
    let adds = wide_written c.args.number c.saturating_sub.result c.ends_before-at.result c.args.self.now.ranges c.self.inside.ranges.items c.in-Some.range c.with-range.result c.beside.result c.beside-2.result
    (subst (λ (s : Numbers). AreApart s.ranges) c.self.view_is c.self.invariant) (ap (λ (s : Numbers). s.ranges) c.self.view_is)
    c.ends_before-at.ensures.place c.saturating_sub.ensures c.beside.ensures c.in-Some.is c.with-range.ensures c.beside-2.ensures none in
    adds.added

pub invariant_of-self-2 : goal.invariant_of-self-2
invariant_of-self-2 c =
    let adds = joined_written c.args.number c.saturating_sub.result c.ends_before-at.result c.args.self.now.ranges c.self.inside.ranges.items c.remove.new.self.items c.in-Some.range c.with-range.result c.in-Some-beside.next c.beside.result c.beside-2.result
    (subst (λ (s : Numbers). AreApart s.ranges) c.self.view_is c.self.invariant) (ap (λ (s : Numbers). s.ranges) c.self.view_is)
    c.ends_before-at.ensures.place c.saturating_sub.ensures c.beside.ensures c.in-Some.is c.with-range.ensures c.beside-2.ensures c.in-Some-beside.is c.remove.ensures.items in
    adds.apart

pub returns-clause-added : goal.returns-clause-added
returns-clause-added c =
    let adds = joined_written c.args.number c.saturating_sub.result c.ends_before-at.result c.args.self.now.ranges c.self.inside.ranges.items c.remove.new.self.items c.in-Some.range c.with-range.result c.in-Some-beside.next c.beside.result c.beside-2.result
    (subst (λ (s : Numbers). AreApart s.ranges) c.self.view_is c.self.invariant) (ap (λ (s : Numbers). s.ranges) c.self.view_is)
    c.ends_before-at.ensures.place c.saturating_sub.ensures c.beside.ensures c.in-Some.is c.with-range.ensures c.beside-2.ensures c.in-Some-beside.is c.remove.ensures.items in
    adds.added
