use Rattle.key_lists.proofs.BoundLaws.{stands_after}
use Rattle.key_lists.proofs.OrderLaws.{nothing_deleted, all_deleted}
use Rattle.key_lists.proofs.laws.deleting_drops_what_matches.Goals as goal

pub returns : goal.returns
returns c = record { nothing = nothing_deleted; all = all_deleted; others = stands_after }
