-- The pieces that are left of a text.
use Rattle.std.specs.Prelude.{ℕ, List, [], ◌==◌, Option, Some, None}
use Rattle.std.specs.Borrow.{Bor}
use Rattle.std.specs.List.{slice_split}
use Rattle.world_scripts.specs.Pieces.{Piece}
use Rattle.world_scripts.specs.Reading.{each_piece}

-- the texts of the pieces that are left, if some are
abbrev pub texts_left : Option (Bor (List ℕ)) → List (List ℕ)
texts_left None = []
texts_left (Some text) = slice_split (λ b. b == 43) text.now

-- the pieces that are left, where each of their texts is one
abbrev pub pieces_left : Option (Bor (List ℕ)) → Option (List Piece)
pieces_left left = each_piece (texts_left left)
