use Rattle.file_tree.proofs.OpenLaws.{opened_exactly}
use Rattle.file_tree.proofs.laws.a_file_is_opened_in_these_modes.Goals as goal

pub returns : goal.returns
returns c = opened_exactly
