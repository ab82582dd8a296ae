use Rattle.std.proofs.Common.{get_or}
use Rattle.key_ring.proofs.AskedLemmas.{serving_is_asked}
use Rattle.key_ring.proofs.indexed_keys.IndexedKeys.find.Goals as goal

pub find_wanted-requires : goal.find_wanted-requires
find_wanted-requires c = λ k d lt. serving_is_asked c.args.template.now c.args.role.now (get_or c.args.self.now.keys k d)
