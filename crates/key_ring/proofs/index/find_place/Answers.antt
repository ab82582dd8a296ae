use Rattle.std.proofs.Common.{rules, sym, ◌∙◌, ltb}
use Rattle.std.proofs.lemmas.List.Sorted.{IsPartitionPoint-from_clause, IsPartitionedBy-ltb}
use Rattle.key_lists.specs.Lists.{KeyEntry}
use Rattle.key_ring.proofs.NumberLemmas.{not_falling, place_here, place_past, place_other}
use Rattle.key_ring.proofs.index.find_place.Goals as goal

pub returns-then-at-keys : goal.returns-then-at-keys
returns-then-at-keys c =
    let n = c.args.serial in
    let parted = IsPartitionedBy-ltb (λ (key : KeyEntry). key.serial) c.args.keys.now n (not_falling c.args.keys.now c.requires) in
    let point = IsPartitionPoint-from_clause (λ (key : KeyEntry). ltb key.serial n) _ _ c.partition_point-at.ensures.partitioned parted (λ a r q k. search rules) in
    place_past n c.args.keys.now c.partition_point-at.result c.if-at-keys.true point

pub returns-then-serial : goal.returns-then-serial
returns-then-serial c =
    let n = c.args.serial in
    let parted = IsPartitionedBy-ltb (λ (key : KeyEntry). key.serial) c.args.keys.now n (not_falling c.args.keys.now c.requires) in
    let point = IsPartitionPoint-from_clause (λ (key : KeyEntry). ltb key.serial n) _ _ c.partition_point-at.ensures.partitioned parted (λ a r q k. search rules) in
    place_other n c.args.keys.now c.partition_point-at.result c.index-keys-at.result c.requires point c.partition_point-at.ensures.bound c.if-at-keys.false c.index-keys-at.is (λ e. c.if-serial.true (c.serial.ensures ∙ e))

pub returns : goal.returns
returns c =
    let n = c.args.serial in
    let parted = IsPartitionedBy-ltb (λ (key : KeyEntry). key.serial) c.args.keys.now n (not_falling c.args.keys.now c.requires) in
    let point = IsPartitionPoint-from_clause (λ (key : KeyEntry). ltb key.serial n) _ _ c.partition_point-at.ensures.partitioned parted (λ a r q k. search rules) in
    place_here n c.args.keys.now c.partition_point-at.result c.index-keys-at.result c.partition_point-at.ensures.bound c.if-at-keys.false point c.index-keys-at.is (sym c.serial.ensures ∙ c.if-serial.false)
