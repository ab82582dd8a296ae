use Rattle.std.proofs.Common.{◌≡◌, ◌++◌, drop}
use Rattle.file_tree.specs.Directories.{fitting, records}
use Rattle.file_tree.specs.Stats.{Begins}
use Rattle.file_tree.proofs.directory.spell_fitting.Given as goal

abbrev pub invariant-loop-node : goal.invariant-loop-node
invariant-loop-node l =
    (l.out ++ records (fitting l.left (drop l.node-index l.nodes)) ≡ l.fn.out ++ records (fitting l.fn.count l.nodes))
    × Begins l.fn.out l.out
