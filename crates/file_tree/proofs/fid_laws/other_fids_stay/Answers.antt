use Rattle.file_tree.proofs.HeldLaws.{stays}
use Rattle.file_tree.proofs.fid_laws.other_fids_stay.Goals as goal

pub returns : goal.returns
returns c = stays
