use Rattle.std.proofs.Common.{◌≡◌, [], drop, map}
use Rattle.clean_runs.specs.Clean.{GivesBytes}
use Rattle.symbolic_runs.specs.Answers.{atoms_of}
use Rattle.trace_labels.specs.Said.{said}
use Rattle.trace_runs.specs.Readings.{with_lines}
use Rattle.trace_runs.proofs.readings.reading_of.Given as goal

abbrev pub invariant-loop-line : goal.invariant-loop-line
invariant-loop-line l = (with_lines (map said (drop l.line-index l.lines)) (atoms_of l.reading) ≡ with_lines (map said l.lines) []) × GivesBytes (atoms_of l.reading)
