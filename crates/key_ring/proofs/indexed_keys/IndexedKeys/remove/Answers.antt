use Rattle.std.proofs.Common.{◌<◌, ◌==◌, List, not, length, sym, ap, subst, ◌∙◌, arith}
use Rattle.std.specs.List.{filter}
use Rattle.key_lists.specs.Lists.{KeyEntry}
use Rattle.key_ring.specs.declared.rank.Order.TheVariants as o
use Rattle.key_ring.specs.Indexed.{Indexed}
use Rattle.key_ring.specs.Ranks.{IsIndex}
use Rattle.key_ring.proofs.LookLemmas.{known_at, removed_is, indexed_kept}
use Rattle.key_ring.proofs.indexed_keys.IndexedKeys.remove.Goals as goal

pub take_out-requires-clause-known : goal.take_out-requires-clause-known
take_out-requires-clause-known c =
    let lt : c.args.at < length c.self.inside.keys.items = omega (arith, c.requires, ap (λ (s : Indexed). length s.keys) c.self.view_is) in
    known_at c.self.inside.keys.items c.deref.result.now c.args.at c.index-key.result.now c.self.invariant.rising c.deref.ensures.value lt c.index-key.ensures

pub take_out-requires-2-clause-known : goal.take_out-requires-2-clause-known
take_out-requires-2-clause-known c =
    let lt : c.args.at < length c.self.inside.keys.items = omega (arith, c.requires, ap (λ (s : Indexed). length s.keys) c.self.view_is) in
    known_at c.self.inside.keys.items c.deref-2.result.now c.args.at c.index-key.result.now c.self.invariant.rising c.deref-2.ensures.value lt c.index-key.ensures

pub invariant_of-self : goal.invariant_of-self
invariant_of-self c =
    let key = c.index-key.result.now in
    let lt : c.args.at < length c.self.inside.keys.items = omega (arith, c.requires, ap (λ (s : Indexed). length s.keys) c.self.view_is) in
    indexed_kept (λ old. not (old.serial == key.serial)) c.self.inside.keys.items c.remove.new.self.items c.self.inside.protos.items c.self.inside.doms.items c.take_out.new.serials.items c.take_out-2.new.serials.items c.self.invariant
    (subst (λ (ks : List KeyEntry). IsIndex o.Proto (filter (λ (old : KeyEntry). not (old.serial == key.serial)) ks) c.take_out.new.serials.items) c.deref.ensures.value c.take_out.ensures.index)
    (subst (λ (ks : List KeyEntry). IsIndex o.Dom (filter (λ (old : KeyEntry). not (old.serial == key.serial)) ks) c.take_out-2.new.serials.items) c.deref-2.ensures.value c.take_out-2.ensures.index)
    (c.remove.ensures.items ∙ sym (removed_is c.self.inside.keys.items c.args.at key c.self.invariant.rising lt c.index-key.ensures))
