use Rattle.std.proofs.Common.{◌≡◌, ◌+◌, drop, map}
use Rattle.clean_runs.specs.KeyNames.{before_first}
use Rattle.trace_runs.specs.Tables.{tables_of}
use Rattle.trace_runs.proofs.tables.count_before.Given as goal

abbrev pub invariant-loop-table : goal.invariant-loop-table
invariant-loop-table l = (before_first (tables_of (map (λ t. t.now) l.tables)) l.user l.key ≡ l.before + before_first (tables_of (map (λ t. t.now) (drop l.table-index l.tables))) l.user l.key) × (l.before ≡ l.table-index)
