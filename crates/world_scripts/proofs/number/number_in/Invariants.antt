use Rattle.std.proofs.Common.{◌≡◌, drop}
use Rattle.world_scripts.specs.Pieces.{behind}
use Rattle.world_scripts.proofs.number.number_in.Given as goal

abbrev pub invariant-loop-digit : goal.invariant-loop-digit
invariant-loop-digit l = behind l.number (drop l.digit-index l.digits) ≡ behind 0 l.digits
