use Rattle.std.proofs.Common.{not, length, refl, ap, arith}
use Rattle.std.proofs.lemmas.List.Filters.{length-filter_both}
use Rattle.attr_tuples.specs.Matching.{matches}
use Rattle.key_lists.specs.Lists.{KeyEntry}
use Rattle.key_ring.proofs.indexed_keys.IndexedKeys.drop_matching.Goals as goal

pub overflow_sub-result : goal.overflow_sub-result
overflow_sub-result c =
    let both = length-filter_both (λ (key : KeyEntry). matches c.args.template.now key.tuple) (λ (key : KeyEntry). not (matches c.args.template.now key.tuple)) (λ key. refl) c.args.self.now.keys in
    omega (arith, c.len-before.ensures, c.len.ensures, ap (length {A = KeyEntry}) c.drop_all.ensures.dropped, both)

pub returns-clause-count : goal.returns-clause-count
returns-clause-count c =
    let both = length-filter_both (λ (key : KeyEntry). matches c.args.template.now key.tuple) (λ (key : KeyEntry). not (matches c.args.template.now key.tuple)) (λ key. refl) c.args.self.now.keys in
    omega (arith, c.len-before.ensures, c.len.ensures, ap (length {A = KeyEntry}) c.drop_all.ensures.dropped, both)
