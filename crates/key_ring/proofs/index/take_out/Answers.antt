use Rattle.std.proofs.Common.{is_eq, ap, ◌∙◌}
use Rattle.key_ring.specs.Ranks.{has_rank, rank_cmp, rank_of}
use Rattle.key_ring.proofs.RankLemmas.{own_rank}
use Rattle.key_ring.proofs.IndexLemmas.{index_taken, searched_err, searched_ok}
use Rattle.key_ring.proofs.index.take_out.Goals as goal

pub unreachable-requires : goal.unreachable-requires
unreachable-requires c =
    let own = c.of-rank.ensures ∙ ap (rank_of c.args.order) c.tuple.ensures.same in
    searched_err c.args.keys.now (has_rank c.args.order c.of-rank.result) c.span-start.result.1.now c.args.key.now c.serial.result c.in_default.field-0 c.requires.rising
    (ap (λ r. is_eq (rank_cmp (rank_of c.args.order c.args.key.now.tuple) r)) own ∙ own_rank (rank_of c.args.order c.args.key.now.tuple)) c.requires.known c.span-start.ensures.numbers c.serial.ensures c.in_default.ensures.position

pub returns-clause-index : goal.returns-clause-index
returns-clause-index c =
    index_taken c.args.order c.args.keys.now c.args.serials.now.items c.deref.result.now c.remove.new.self.items c.span-start.result.1.now c.args.key.now c.span-start.result.0 c.in-Ok.at c.serial.result
    c.requires.index c.deref.ensures.value (searched_ok c.args.keys.now (has_rank c.args.order c.of-rank.result) c.span-start.result.1.now c.serial.result c.in-Ok.at c.requires.rising c.span-start.ensures.numbers c.in-Ok.ensures.position)
    c.span-start.ensures.bound c.span-start.ensures.place c.serial.ensures c.remove.ensures.items
