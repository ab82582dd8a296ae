use Rattle.std.proofs.Common.{◌≡◌, drop, map}
use Rattle.trace_labels.specs.Said.{said}
use Rattle.trace_runs.specs.Readings.{holder_in}
use Rattle.trace_runs.proofs.readings.holder_of.Given as goal

abbrev pub invariant-loop-line : goal.invariant-loop-line
invariant-loop-line l = holder_in l.conv (map said (drop l.line-index l.lines)) ≡ holder_in l.conv (map said l.lines)
