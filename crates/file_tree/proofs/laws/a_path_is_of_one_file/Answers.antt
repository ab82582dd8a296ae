use Rattle.file_tree.proofs.WalkLaws.{one_path}
use Rattle.file_tree.proofs.laws.a_path_is_of_one_file.Goals as goal

pub returns : goal.returns
returns c = one_path
