use Rattle.std.proofs.Common.{◌≡◌, drop, map}
use Rattle.trace_labels.specs.Said.{said}
use Rattle.trace_runs.specs.Readings.{give_sevens}
use Rattle.trace_runs.proofs.readings.gives_sevens.Given as goal

abbrev pub invariant-loop-line : goal.invariant-loop-line
invariant-loop-line l = give_sevens (map said (drop l.line-index l.lines)) ≡ give_sevens (map said l.lines)
