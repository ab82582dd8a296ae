use Rattle.std.proofs.Common.{ap, ◌∙◌}
use Rattle.std.specs.Result.{is_ok}
use Rattle.key_ring.specs.Ranks.{rank_of}
use Rattle.key_ring.proofs.IndexLemmas.{index_put}
use Rattle.key_ring.proofs.index.put_newest.Goals as goal

pub returns-clause-index : goal.returns-clause-index
returns-clause-index c =
    index_put c.args.order c.args.keys.now c.args.serials.now.items c.deref.result.now c.insert.new.self.items c.args.key.now c.of-rank.result c.find_end-at.result c.serial.result (is_ok c.insert.result)
    c.requires.index c.requires.newest c.deref.ensures.value c.find_end-at.ensures.bound (c.of-rank.ensures ∙ ap (rank_of c.args.order) c.tuple.ensures.same) c.find_end-at.ensures.parted c.serial.ensures c.insert.ensures.items c.if-is_err.ensures.negation
