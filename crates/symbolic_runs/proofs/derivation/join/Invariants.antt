use Rattle.std.proofs.Common.{◌≡◌, map, drop, option_map}
use Rattle.symbolic_runs.specs.Views.{tree}
use Rattle.symbolic_runs.specs.Derivations.{pieces_at}
use Rattle.symbolic_runs.proofs.ConcludeLemmas.{pieces_behind}
use Rattle.symbolic_runs.proofs.derivation.join.Given as goal

abbrev pub invariant-loop-place : goal.invariant-loop-place
invariant-loop-place l = pieces_at (map tree l.done) l.places ≡ option_map (pieces_behind (map tree l.pieces.items)) (pieces_at (map tree l.done) (drop l.place-index l.places))
