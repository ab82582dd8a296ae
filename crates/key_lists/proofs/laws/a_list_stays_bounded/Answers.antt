use Rattle.key_lists.proofs.BoundLaws.{bounded_added, bounded_deleted}
use Rattle.key_lists.proofs.laws.a_list_stays_bounded.Goals as goal

pub returns-clause-added : goal.returns-clause-added
returns-clause-added c = bounded_added

pub returns-clause-deleted : goal.returns-clause-deleted
returns-clause-deleted c = bounded_deleted
