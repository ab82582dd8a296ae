use Rattle.file_tree.proofs.WalkLaws.{in_parts}
use Rattle.file_tree.proofs.laws.a_walk_may_be_made_in_parts.Goals as goal

pub returns : goal.returns
returns c = in_parts
