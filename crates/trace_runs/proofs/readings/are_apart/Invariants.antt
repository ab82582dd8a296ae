use Rattle.std.proofs.Common.{◌≡◌, [], drop, map}
use Rattle.trace_labels.specs.Said.{said}
use Rattle.trace_runs.specs.Readings.{are_new, is_of}
use Rattle.trace_runs.proofs.readings.are_apart.Given as goal

abbrev pub invariant-loop-line : goal.invariant-loop-line
invariant-loop-line l = are_new (is_of l.kind) (map (λ t. t.now) l.seen.keys) (map said (drop l.line-index l.lines)) ≡ are_new (is_of l.kind) [] (map said l.lines)
