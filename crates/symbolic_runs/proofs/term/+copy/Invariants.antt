use Rattle.std.proofs.Common.{◌≡◌, map, take}
use Rattle.symbolic_runs.specs.Views.{tree}
use Rattle.symbolic_runs.proofs.term.+copy.Given as goal

abbrev pub invariant-Terms::copy-loop-term : goal.invariant-Terms::copy-loop-term
invariant-Terms::copy-loop-term l = map tree l.copies.items ≡ map tree (take l.term-index l.term-items)
