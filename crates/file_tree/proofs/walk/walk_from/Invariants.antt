use Rattle.std.proofs.Common.{◌≡◌, ◌++◌, drop}
use Rattle.file_tree.specs.Tree.{lead_to, visited}
use Rattle.file_tree.proofs.walk.walk_from.Given as goal

abbrev pub invariant-loop-name : goal.invariant-loop-name
invariant-loop-name l =
    (l.nodes ++ visited l.at (drop l.name-index l.names) ≡ visited l.fn.node l.names)
    × (lead_to l.at (drop l.name-index l.names) ≡ lead_to l.fn.node l.names)
