use Rattle.std.proofs.Common.{◌≡◌, ◌+◌, length, take, drop, map}
use Rattle.symbolic_runs.specs.Spellings.{spelling_all}
use Rattle.symbolic_runs.specs.Views.{tree, trees_of}
use Rattle.symbolic_runs.specs.Answers.{atoms_of, behind}
use Rattle.symbolic_runs.proofs.Weights.{weight, weight_all}
use Rattle.symbolic_runs.proofs.term_spelling.+write.Given as goal

abbrev pub decreases-write_term : goal.decreases-write_term
decreases-write_term l = weight (tree l.term.now)

abbrev pub decreases-write_pieces : goal.decreases-write_pieces
decreases-write_pieces l = 1 + weight_all (trees_of (map tree l.pieces.now))

abbrev pub decreases-write_seal : goal.decreases-write_seal
decreases-write_seal l = 1 + weight (tree l.key.now) + weight (tree l.body.now)

abbrev pub decreases-write_digest : goal.decreases-write_digest
decreases-write_digest l = 1 + weight (tree l.secret.now) + weight (tree l.text.now)

-- what is spelled so far and what is left are all of it
abbrev pub invariant-write_pieces-loop-piece : goal.invariant-write_pieces-loop-piece
invariant-write_pieces-loop-piece l =
    (behind l.list.items (spelling_all (atoms_of l.reading) (trees_of (map tree (drop l.piece-index l.pieces))))
    ≡ behind l.initial.list.items (spelling_all (atoms_of l.reading) (trees_of (map tree l.pieces))))
    × (take (length l.initial.list.items) l.list.items ≡ l.initial.list.items)
