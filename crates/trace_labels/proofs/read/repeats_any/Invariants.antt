use Rattle.std.proofs.Common.{◌≡◌, map, drop}
use Rattle.trace_labels.specs.Labels.{is_repeated}
use Rattle.trace_labels.specs.Said.{said}
use Rattle.trace_labels.proofs.read.repeats_any.Given as goal

abbrev pub invariant-loop-other : goal.invariant-loop-other
invariant-loop-other l = is_repeated (said l.line) (map said (drop l.other-index l.lines)) ≡ is_repeated (said l.line) (map said l.lines)
