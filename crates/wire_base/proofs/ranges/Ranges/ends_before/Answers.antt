use Rattle.std.proofs.Common.{ℕ, ltb, ap, subst, ◌∙◌, ◌≡◌, List, drop, rules}
use Rattle.std.proofs.lemmas.List.Sorted.{IsPartitionPoint-from_clause, IsPartitionedBy-ltb}
use Rattle.wire_base.specs.declared.range.Range.{Range}
use Rattle.wire_base.specs.Spans.{AreApart, Numbers, begun, ends_before}
use Rattle.wire_base.proofs.PlaceLemmas.{begun_at, place_is, rises}
use Rattle.wire_base.proofs.ranges.Ranges.ends_before.Goals as goal

pub returns-clause-place : goal.returns-clause-place
returns-clause-place c =
    let n = c.args.number in
    let rs : List Range = c.self.inside.ranges.items in
    let slice : c.deref.result.now ≡ rs = c.deref.ensures.value in
    let parted = IsPartitionedBy-ltb (λ (r : Range). r.last) c.deref.result.now n (rw slice (rises rs c.self.invariant)) in
    let point = IsPartitionPoint-from_clause (λ (r : Range). ltb r.last n) _ _ c.partition_point.ensures.partitioned parted (λ a r q k. search rules) in
    place_is n c.deref.result.now c.partition_point.result c.partition_point.ensures.bound point.0 point.1
    ∙ ap (ends_before n) (slice ∙ ap (λ (s : Numbers). s.ranges) c.self.view_is)

pub returns-clause-told : goal.returns-clause-told
returns-clause-told c =
    let n = c.args.number in
    let rs : List Range = c.args.self.now.ranges in
    ap (λ (k : ℕ). begun n (drop k rs)) (returns-clause-place c) ∙ begun_at n rs (subst (λ (s : Numbers). AreApart s.ranges) c.self.view_is c.self.invariant)
