use Rattle.std.proofs.Common.{◌≡◌, ◌++◌, length, take, drop, map}
use Rattle.auth_tables.specs.Printing.{table_text}
use Rattle.auth_tables.proofs.keys.KeyTable.append_lines.Given as goal

abbrev pub invariant-loop-line : goal.invariant-loop-line
invariant-loop-line l = (take (length l.initial.out) l.out ≡ l.initial.out) × (l.out ++ table_text (map (λ line. (line.user, line.key)) (drop l.line-index l.line-items)) ≡ l.initial.out ++ table_text l.self)
