use Rattle.std.proofs.Common.{◌≡◌, map, drop}
use Rattle.symbolic_runs.specs.Views.{tree}
use Rattle.symbolic_runs.specs.Derivations.{conclusions, conclusions_after}
use Rattle.symbolic_runs.proofs.derivation.conclude.Given as goal

abbrev pub invariant-loop-step : goal.invariant-loop-step
invariant-loop-step l = conclusions_after (map tree l.known) (map tree l.done.items) (drop l.step-index l.proof) ≡ conclusions (map tree l.known) l.proof
