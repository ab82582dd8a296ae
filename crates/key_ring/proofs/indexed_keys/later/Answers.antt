use Rattle.std.proofs.Common.{leb, rules, ◌∙◌}
use Rattle.std.proofs.lemmas.List.Sorted.{IsPartitionPoint-from_clause, IsPartitionedBy-leb}
use Rattle.key_ring.proofs.LookLemmas.{later_is, no_falling}
use Rattle.key_ring.proofs.indexed_keys.later.Goals as goal

pub returns : goal.returns
returns c =
    let n = c.args.serial in
    let parted = IsPartitionedBy-leb (λ other. other) c.args.serials.now n (no_falling c.args.serials.now c.requires) in
    let point = IsPartitionPoint-from_clause (λ other. leb other n) _ _ c.partition_point-at.ensures.partitioned parted (λ a r q k. search rules) in
    c.split_at.ensures.back ∙ later_is n c.partition_point-at.result c.args.serials.now c.partition_point-at.ensures.bound point
