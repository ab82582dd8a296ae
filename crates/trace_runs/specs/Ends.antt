-- What stands at the end of what a conversation did. Of the code alone.
use Rattle.std.specs.Prelude.{List, [], ◌∷◌, Option, Some, None}
use Rattle.symbolic_runs.specs.Moves.{Move}
use Rattle.symbolic_runs.specs.Trees.{Tree}
use Rattle.trace_runs.specs.Rows.{given_of, heard_of, taken_of}

abbrev pub some_moves : List Move → Option (List Move)
some_moves [] = None
some_moves (move ∷ before) = Some (move ∷ before)

-- the second of two, where the first is there
abbrev pub behind : {A B : Type 0} → Option A → Option B → Option B
behind None b = None
behind (Some a) b = b

abbrev pub heard_first : List Move → Option Tree
heard_first [] = None
heard_first (move ∷ before) = heard_of move

abbrev pub taken_first : List Move → Option Tree
taken_first [] = None
taken_first (move ∷ before) = taken_of move

abbrev pub heard_before : List Move → Option Tree
heard_before [] = None
heard_before (move ∷ before) = behind (given_of move) (heard_first before)

abbrev pub answer_before : List Move → Option Tree
answer_before [] = None
answer_before (move ∷ before) = behind (taken_of move) (heard_before before)
