use Rattle.std.proofs.Common.{◌≡◌, map, take, true}
use Rattle.std.specs.List.{list_all}
use Rattle.symbolic_runs.specs.Answers.{atoms_of}
use Rattle.trace_labels.specs.Said.{said}
use Rattle.trace_runs.specs.Holders.{reads_start}
use Rattle.trace_runs.proofs.holders.reads_holders.Given as goal

abbrev pub invariant-loop-step : goal.invariant-loop-step
invariant-loop-step l = list_all (reads_start (atoms_of l.reading) (map said l.lines) l.setting) (take l.step-index l.steps) ≡ true
