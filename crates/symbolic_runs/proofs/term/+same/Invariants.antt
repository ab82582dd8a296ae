use Rattle.std.proofs.Common.{◌≡◌, map, drop}
use Rattle.symbolic_runs.specs.Trees.{same_trees}
use Rattle.symbolic_runs.specs.Views.{tree, trees_of}
use Rattle.symbolic_runs.proofs.term.+same.Given as goal

abbrev pub invariant-Terms::same-loop-index : goal.invariant-Terms::same-loop-index
invariant-Terms::same-loop-index l =
    same_trees (trees_of (map tree l.self.list.items)) (trees_of (map tree l.other.list.items))
    ≡ same_trees (trees_of (map tree (drop l.index l.self.list.items))) (trees_of (map tree (drop l.index l.other.list.items)))
