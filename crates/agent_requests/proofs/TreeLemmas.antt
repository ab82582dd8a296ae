-- How many files a walk comes to, and how many bytes a read of a directory gives.
use Rattle.std.proofs.Common.{ℕ, ◌-◌, ◌≤◌, List, [], ◌∷◌, length, Option, Some, None, arith, inl, inr}
use Rattle.std.specs.Prelude.{nat_le}
use Rattle.std.proofs.lemmas.Bool.{cases_Bool, leb-true}
use Rattle.std.proofs.lemmas.List.{length-append}
use Rattle.file_tree.specs.declared.tree.Node.{Node}
use Rattle.file_tree.specs.Tree.{step, visited, files_in}
use Rattle.file_tree.specs.Stats.{record_of}
use Rattle.file_tree.specs.Directories.{size_of, behind, fitting, records, dir_bytes}

pub visited_few : (node : Node) (names : List (List ℕ)) → length {A = Node} (visited node names) ≤ length {A = List ℕ} names
visited_few node [] = omega arith
visited_few node (name ∷ names) = here (step node name) (λ next. visited_few next names)
  where
    here : (o : Option Node) → ((next : Node) → length {A = Node} (visited next names) ≤ length {A = List ℕ} names) → length {A = Node} (elim o [ Some next ↦ next ∷ visited next names | None ↦ [] ]) ≤ length {A = List ℕ} (name ∷ names)
    here None more = omega arith
    here (Some next) more = omega (arith, more next)

fitting_short : (count : ℕ) (nodes : List Node) → length (records (fitting count nodes)) ≤ count
fitting_short count [] = omega arith
fitting_short count (node ∷ nodes) = elim (cases_Bool (nat_le (size_of node) count)) [
  | inl fits ↦ rw fits (omega (arith, length-append (record_of node) (records (fitting (count - size_of node) nodes)), fitting_short (count - size_of node) nodes, leb-true (size_of node) count fits))
  | inr large ↦ rw large (omega arith)
]

pub dir_bytes_short : (node : Node) (offset count : ℕ) → length (dir_bytes node offset count) ≤ count
unfolding dir_bytes
dir_bytes_short node offset count = fitting_short count (behind offset (files_in node))
