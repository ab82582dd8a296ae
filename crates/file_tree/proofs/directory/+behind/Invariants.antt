use Rattle.std.proofs.Common.{length}
use Rattle.file_tree.proofs.directory.+behind.Given as goal

abbrev pub decreases-behind : goal.decreases-behind
decreases-behind l = length l.nodes.now
