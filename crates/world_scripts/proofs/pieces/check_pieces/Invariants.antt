use Rattle.std.proofs.Common.{◌≡◌, is_some}
use Rattle.attr_tuples.specs.Cutting.{turns_left}
use Rattle.world_scripts.specs.Reading.{pieces_of}
use Rattle.world_scripts.specs.Parts.{pieces_left}
use Rattle.world_scripts.proofs.pieces.check_pieces.Given as goal

abbrev pub invariant-loop-left : goal.invariant-loop-left
invariant-loop-left l = is_some (pieces_left l.left) ≡ is_some (pieces_of l.text)

abbrev pub decreases-loop-left : goal.decreases-loop-left
decreases-loop-left l = turns_left l.left
