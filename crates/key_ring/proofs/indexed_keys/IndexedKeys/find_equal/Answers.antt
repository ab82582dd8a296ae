use Rattle.std.proofs.Common.{◌≡◌, List, true, get_or, map, ap, sym, subst, ◌∙◌}
use Rattle.std.specs.List.{filter, position}
use Rattle.attr_tuples.specs.Equality.{public_equal}
use Rattle.key_lists.specs.Lists.{KeyEntry}
use Rattle.key_ring.specs.declared.rank.Order.TheVariants as o
use Rattle.key_ring.specs.declared.wanted.Wanted.TheVariants as w
use Rattle.key_ring.specs.Indexed.{Indexed}
use Rattle.key_ring.specs.Ranks.{RankOf, has_rank}
use Rattle.key_ring.specs.Wanting.{first_of}
use Rattle.key_ring.proofs.AskedLemmas.{equal_has_rank}
use Rattle.key_ring.proofs.LookLemmas.{found_among, place_of_found, place_of_none}
use Rattle.key_ring.proofs.NumberLemmas.{has_number}
use Rattle.key_ring.proofs.indexed_keys.IndexedKeys.find_equal.Goals as goal

pub returns-in-Some : goal.returns-in-Some
returns-in-Some c =
    let keys : c.self.inside.keys.items ≡ c.args.self.now.keys = ap (λ (s : Indexed). s.keys) c.self.view_is in
    let wanted = w.Equal c.args.tuple in
    let among = found_among wanted (has_rank o.Dom c.of-rank.result) c.self.inside.keys.items c.span.result.1.now c.self.invariant.rising
    (c.span.ensures.numbers ∙ ap (λ (ks : List KeyEntry). map (λ (key : KeyEntry). key.serial) (filter (has_rank o.Dom c.of-rank.result) ks)) c.deref.ensures.value)
    (λ k d lt same. subst (λ (r : RankOf). has_rank o.Dom r (get_or c.self.inside.keys.items k d) ≡ true) (sym c.of-rank.ensures) (equal_has_rank c.args.tuple.now (get_or c.self.inside.keys.items k d) c.requires (c.self.invariant.valid k d lt) same)) in
    let found = ap (λ (ks : List KeyEntry). first_of wanted ks c.span.result.1.now) c.deref-3.ensures.value ∙ among in
    c.find_place.ensures ∙ ap (λ (ks : List KeyEntry). position (has_number c.serial.result) ks) c.deref-in-Some.ensures.value
    ∙ ap (λ n. position (has_number n) c.self.inside.keys.items) c.serial.ensures
    ∙ place_of_found (λ old. public_equal c.args.tuple.now old.tuple) c.self.inside.keys.items c.in-Some.key.now c.self.invariant.rising (sym (c.in-Some.ensures ∙ found))
    ∙ ap (λ (ks : List KeyEntry). position (λ (old : KeyEntry). public_equal c.args.tuple.now old.tuple) ks) keys

pub returns-in-None : goal.returns-in-None
returns-in-None c =
    let keys : c.self.inside.keys.items ≡ c.args.self.now.keys = ap (λ (s : Indexed). s.keys) c.self.view_is in
    let wanted = w.Equal c.args.tuple in
    let among = found_among wanted (has_rank o.Dom c.of-rank.result) c.self.inside.keys.items c.span.result.1.now c.self.invariant.rising
    (c.span.ensures.numbers ∙ ap (λ (ks : List KeyEntry). map (λ (key : KeyEntry). key.serial) (filter (has_rank o.Dom c.of-rank.result) ks)) c.deref.ensures.value)
    (λ k d lt same. subst (λ (r : RankOf). has_rank o.Dom r (get_or c.self.inside.keys.items k d) ≡ true) (sym c.of-rank.ensures) (equal_has_rank c.args.tuple.now (get_or c.self.inside.keys.items k d) c.requires (c.self.invariant.valid k d lt) same)) in
    let found = ap (λ (ks : List KeyEntry). first_of wanted ks c.span.result.1.now) c.deref-3.ensures.value ∙ among in
    place_of_none (λ old. public_equal c.args.tuple.now old.tuple) c.self.inside.keys.items (sym (c.in-None.ensures ∙ found))
    ∙ ap (λ (ks : List KeyEntry). position (λ (old : KeyEntry). public_equal c.args.tuple.now old.tuple) ks) keys
