use Rattle.std.proofs.Common.{◌≡◌, true, map}
use Rattle.symbolic_runs.specs.Answers.{atoms_of}
use Rattle.trace_runs.specs.Tables.{reads_below, tables_of}
use Rattle.trace_runs.proofs.tables.reads_tables.Given as goal

abbrev pub invariant-loop-number : goal.invariant-loop-number
invariant-loop-number l = reads_below (atoms_of l.reading) (tables_of (map (λ t. t.now) l.tables)) l.number ≡ true
