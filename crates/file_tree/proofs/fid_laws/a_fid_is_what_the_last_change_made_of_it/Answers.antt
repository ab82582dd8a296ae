use Rattle.file_tree.proofs.HeldLaws.{one_more}
use Rattle.file_tree.proofs.fid_laws.a_fid_is_what_the_last_change_made_of_it.Goals as goal

pub returns-clause-next : goal.returns-clause-next
returns-clause-next c = one_more
