use Rattle.std.proofs.Common.{◌≡◌, false, map, drop}
use Rattle.symbolic_runs.specs.Views.{tree}
use Rattle.trace_labels.specs.Judged.{last_is}
use Rattle.trace_labels.proofs.judge.is_last_of.Given as goal

abbrev pub invariant-loop-end : goal.invariant-loop-end
invariant-loop-end l = last_is l.found (map tree (drop l.end-index l.ends)) (tree l.term) ≡ last_is false (map tree l.ends) (tree l.term)
