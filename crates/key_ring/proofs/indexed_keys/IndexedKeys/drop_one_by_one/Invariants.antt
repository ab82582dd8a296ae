use Rattle.std.proofs.Common.{◌≡◌, ◌≤◌, not, length}
use Rattle.std.specs.List.{filter}
use Rattle.attr_tuples.specs.Matching.{matches}
use Rattle.key_lists.specs.Lists.{KeyEntry}
use Rattle.key_ring.proofs.indexed_keys.IndexedKeys.drop_one_by_one.Given as goal

-- the keys that don't match are those that didn't
abbrev pub invariant-loop-at : goal.invariant-loop-at
invariant-loop-at l = record {
  kept : filter (λ (key : KeyEntry). not (matches l.template key.tuple)) l.self.keys ≡ filter (λ (key : KeyEntry). not (matches l.template key.tuple)) l.fn.self.keys;
  room : l.fn.self.room ≤ l.self.room;
}

abbrev pub decreases-loop-at : goal.decreases-loop-at
decreases-loop-at l = length l.self.keys
