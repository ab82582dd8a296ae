-- The pieces of a tree as a list; of a tree that isn't joined there are none. And what a part is that was looked for:
-- its tree, or nothing. Of the code alone.
use Rattle.std.specs.Prelude.{List, [], ◌∷◌, Option, Some, None, option_map}
use Rattle.std.specs.Borrow.{Bor}
use Rattle.symbolic_runs.specs.declared.term.Term.{Term}
use Rattle.symbolic_runs.specs.Gifts.{or_nothing}
use Rattle.symbolic_runs.specs.Trees.{Tree, joined, Trees, none, piece}
use Rattle.symbolic_runs.specs.Views.{tree}

abbrev pub list_of : Trees → List Tree
list_of none = []
list_of (piece t ts) = t ∷ list_of ts

abbrev pub pieces_in : Tree → Option (List Tree)
pieces_in (joined ts) = Some (list_of ts)
pieces_in t = None

abbrev pub found_tree : Option (Bor Term) → Tree
found_tree found = or_nothing (option_map (λ term. tree term.now) found)
