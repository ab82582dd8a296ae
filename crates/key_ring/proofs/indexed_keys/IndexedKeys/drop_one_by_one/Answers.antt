use Rattle.std.proofs.Common.{[], not, ap, sym, ◌∙◌, arith}
use Rattle.std.specs.List.{filter}
use Rattle.std.proofs.lemmas.List.Quantifiers.{position-Some}
use Rattle.attr_tuples.specs.Matching.{matches}
use Rattle.key_lists.specs.Lists.{KeyEntry}
use Rattle.key_ring.proofs.LookLemmas.{kept_of_removed, unmatched_kept}
use Rattle.key_ring.proofs.indexed_keys.IndexedKeys.drop_one_by_one.Goals as goal

pub loop-at-preserved : goal.loop-at-preserved
loop-at-preserved c =
    let test : KeyEntry → _ = λ key. matches c.args.template.now key.tuple in
    let d : KeyEntry = record { tuple = []; serial = 0 } in
    let first = position-Some test c.loop-at.self.keys c.in-Some.at d (sym c.in-Some.ensures) in
    record {
      kept = ap (filter (λ (key : KeyEntry). not (test key))) c.remove.ensures.items ∙ kept_of_removed (λ (key : KeyEntry). not (test key)) c.loop-at.self.keys c.in-Some.at d first.0 (ap not first.1) ∙ c.loop-at.invariant.kept;
      room = omega (arith, c.remove.ensures.room, c.loop-at.invariant.room);
    }

pub returns-clause-dropped : goal.returns-clause-dropped
returns-clause-dropped c =
    sym (unmatched_kept (λ (key : KeyEntry). matches c.args.template.now key.tuple) c.loop-at.self.keys (sym c.find_matching.ensures ∙ c.in_default.is)) ∙ c.loop-at.invariant.kept
