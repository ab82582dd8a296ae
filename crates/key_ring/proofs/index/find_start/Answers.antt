use Rattle.std.proofs.Common.{rules}
use Rattle.std.specs.Ordering.{is_lt}
use Rattle.std.proofs.lemmas.List.Sorted.{IsPartitionPoint-from_clause}
use Rattle.key_ring.specs.Ranks.{numbered, stood}
use Rattle.key_ring.proofs.index.find_start.Goals as goal

pub returns-clause-parted : goal.returns-clause-parted
returns-clause-parted c = λ parted. IsPartitionPoint-from_clause (λ serial. is_lt (stood c.args.order c.args.rank.now (numbered c.args.keys.now serial))) _ _ c.partition_point.ensures.partitioned parted (λ a r q k. search rules)
