-- How many edits of a batch are carried out: those before the first that is refused.
use Rattle.std.specs.Prelude.{ℕ, ◌+◌, List, [], ◌∷◌, Some, None}
use Rattle.key_lists.specs.Lists.{KeyList}
use Rattle.key_lists.specs.Edits.{KeyEdit}
use Rattle.key_lists.specs.Batches.{edit_fault, edited}

abbrev pub edits_taken : List KeyEdit → KeyList → ℕ
edits_taken [] list = 0
edits_taken (edit ∷ edits) list =
    elim (edit_fault edit list) [ None ↦ edits_taken edits (edited edit list) + 1 | Some fault ↦ 0 ]
