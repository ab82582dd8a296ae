use Rattle.std.proofs.Common.{List, None, Some, map, ap, ◌∙◌}
use Rattle.std.specs.List.{filter}
use Rattle.key_lists.specs.Lists.{KeyEntry}
use Rattle.key_ring.specs.declared.rank.Order.TheVariants as o
use Rattle.key_ring.specs.Indexed.{Indexed}
use Rattle.key_ring.specs.Ranks.{RankOf, has_rank}
use Rattle.key_ring.specs.Serials.{is_of}
use Rattle.key_ring.proofs.AskedLemmas.{protos_lent}
use Rattle.key_ring.proofs.indexed_keys.IndexedKeys.lend_proto.Goals as goal

pub returns : goal.returns
returns c =
    c.span.ensures.numbers
    ∙ ap (λ (rank : RankOf). map (λ (key : KeyEntry). key.serial) (filter (has_rank o.Proto rank) c.deref.result.now)) c.new-rank.ensures
    ∙ ap (λ (keys : List KeyEntry). map (λ (key : KeyEntry). key.serial) (filter (has_rank o.Proto (record { proto = Some c.args.proto.now; dom = None })) keys)) c.deref.ensures.value
    ∙ protos_lent c.args.proto.now c.self.inside.keys.items c.self.invariant.valid
    ∙ ap (λ (s : Indexed). map (λ (key : KeyEntry). key.serial) (filter (λ (key : KeyEntry). is_of c.args.proto.now None key.tuple) s.keys)) c.self.view_is
