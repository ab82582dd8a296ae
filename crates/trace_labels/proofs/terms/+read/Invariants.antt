use Rattle.std.proofs.Common.{◌+◌, ◌*◌}
use Rattle.trace_labels.specs.Reading.{term_in}
use Rattle.trace_labels.proofs.TermLaws.{Going}
use Rattle.trace_labels.proofs.terms.+read.Given as goal

abbrev pub decreases-read_term : goal.decreases-read_term
decreases-read_term l = 4 * l.deep

abbrev pub decreases-read_behind : goal.decreases-read_behind
decreases-read_behind l = 4 * l.deep + 3

abbrev pub decreases-read_cat : goal.decreases-read_cat
decreases-read_cat l = 4 * l.deep + 2

abbrev pub decreases-read_pieces : goal.decreases-read_pieces
decreases-read_pieces l = 4 * l.deep + 1

abbrev pub decreases-read_seal : goal.decreases-read_seal
decreases-read_seal l = 4 * l.deep + 1

abbrev pub decreases-read_mac : goal.decreases-read_mac
decreases-read_mac l = 4 * l.deep + 1

-- what was read so far, and what is left, are all of it
abbrev pub invariant-read_pieces-loop : goal.invariant-read_pieces-loop
invariant-read_pieces-loop l = Going (term_in l.deep) l.many l.counter l.initial.words l.words l.pieces.items
