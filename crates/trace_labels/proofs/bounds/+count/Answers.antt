use Rattle.std.proofs.Common.{arith}
use Rattle.symbolic_runs.proofs.Weights.{lighter_piece, lighter_pieces}
use Rattle.trace_labels.proofs.bounds.+count.Goals as goal

pub terms_in_all-terms_in-requires : goal.terms_in_all-terms_in-requires
terms_in_all-terms_in-requires t c = (omega (arith, c.decreases, lighter_piece c.args.pieces.now c.loop-piece.piece-index c.piece-item.result c.loop-piece-test.true c.piece-item.is), tt)

pub terms_in-terms_in_all-requires : goal.terms_in-terms_in_all-requires
terms_in-terms_in_all-requires t c = (lighter_pieces c.args.term.now c.in-Cat.pieces c.as_slice.result.now t c.in-Cat.is c.as_slice.ensures c.decreases, tt)

pub terms_in_both-terms_in-requires : goal.terms_in_both-terms_in-requires
terms_in_both-terms_in-requires t c = (omega (arith, c.decreases), tt)
