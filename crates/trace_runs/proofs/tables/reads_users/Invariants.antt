use Rattle.std.proofs.Common.{◌≡◌, true, map, take}
use Rattle.std.specs.List.{list_all}
use Rattle.symbolic_runs.specs.Answers.{atoms_of}
use Rattle.trace_runs.specs.Tables.{reads_user, tables_of}
use Rattle.trace_runs.proofs.tables.reads_users.Given as goal

abbrev pub invariant-loop-place : goal.invariant-loop-place
invariant-loop-place l = list_all (λ line. reads_user (atoms_of l.reading) (tables_of (map (λ t. t.now) l.tables)) l.number line.0) (take l.place l.table) ≡ true
