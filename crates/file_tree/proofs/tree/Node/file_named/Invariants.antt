use Rattle.std.proofs.Common.{◌≡◌, drop}
use Rattle.std.specs.Prelude.{find, bytes_eq}
use Rattle.file_tree.specs.Tree.{file, files_in}
use Rattle.file_tree.proofs.tree.Node.file_named.Given as goal

abbrev pub invariant-loop-child : goal.invariant-loop-child
invariant-loop-child l =
    find (λ child. bytes_eq l.name (file child).name) (drop l.child-index l.child-items)
    ≡ find (λ child. bytes_eq l.name (file child).name) (files_in l.fn.self)
