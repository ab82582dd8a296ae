use Rattle.std.proofs.Common.{List, not, rules, ap, subst, ◌∙◌}
use Rattle.std.specs.List.{filter}
use Rattle.std.proofs.lemmas.Fn.{filter_same}
use Rattle.attr_tuples.specs.Matching.{matches}
use Rattle.key_lists.specs.Lists.{KeyEntry}
use Rattle.key_ring.specs.declared.rank.Order.TheVariants as o
use Rattle.key_ring.specs.Indexed.{Indexed}
use Rattle.key_ring.specs.Ranks.{IsIndex}
use Rattle.key_ring.proofs.LookLemmas.{indexed_kept}
use Rattle.key_ring.proofs.indexed_keys.IndexedKeys.drop_over_all.Goals as goal

pub invariant_of-self : goal.invariant_of-self
invariant_of-self c =
    let kept : KeyEntry → _ = λ key. not (matches c.args.template.now key.tuple) in
    let is = filter_same _ kept _ (λ x b f k. search rules) c.self.inside.keys.items c.retain.new.self.items c.retain.ensures.filtered in
    indexed_kept kept c.self.inside.keys.items c.retain.new.self.items c.self.inside.protos.items c.self.inside.doms.items c.drop_matching.new.serials.items c.drop_matching-2.new.serials.items c.self.invariant
    (subst (λ (ks : List KeyEntry). IsIndex o.Proto (filter kept ks) c.drop_matching.new.serials.items) c.deref.ensures.value c.drop_matching.ensures.index)
    (subst (λ (ks : List KeyEntry). IsIndex o.Dom (filter kept ks) c.drop_matching-2.new.serials.items) c.deref-2.ensures.value c.drop_matching-2.ensures.index) is

pub returns-clause-dropped : goal.returns-clause-dropped
returns-clause-dropped c =
    let kept : KeyEntry → _ = λ key. not (matches c.args.template.now key.tuple) in
    filter_same _ kept _ (λ x b f k. search rules) c.self.inside.keys.items c.retain.new.self.items c.retain.ensures.filtered ∙ ap (λ (s : Indexed). filter kept s.keys) c.self.view_is
