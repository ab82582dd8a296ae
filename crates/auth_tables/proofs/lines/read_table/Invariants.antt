use Rattle.std.proofs.Common.{ℕ, ◌+◌, ◌≤◌, List, length}
use Rattle.attr_tuples.specs.Cutting.{text_lines, turns_left}
use Rattle.auth_tables.specs.Lines.{counted}
use Rattle.auth_tables.specs.Steps.{HasRead}
use Rattle.auth_tables.proofs.lines.read_table.Given as goal

-- some lines were read, the table tells what they say, and each turn takes at least a byte or the end of the file
abbrev pub invariant-loop-left : goal.invariant-loop-left
invariant-loop-left g l = record {
  read : (before : List (List ℕ)) × HasRead g.T.Table.fits (text_lines l.fn.file) l.left l.place.number l.place.count before × g.T.Table.tells (counted before) l.table;
  room : l.place.number + turns_left l.left ≤ length l.fn.file + 1;
}

abbrev pub decreases-loop-left : goal.decreases-loop-left
decreases-loop-left g l = turns_left l.left
