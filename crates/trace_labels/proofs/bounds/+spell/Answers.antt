use Rattle.std.proofs.Common.{arith}
use Rattle.symbolic_runs.proofs.Weights.{lighter_piece, lighter_pieces}
use Rattle.trace_labels.proofs.bounds.+spell.Goals as goal

pub bytes_in_all-bytes_in-requires : goal.bytes_in_all-bytes_in-requires
bytes_in_all-bytes_in-requires t c = (omega (arith, c.decreases, lighter_piece c.args.pieces.now c.loop-piece.piece-index c.piece-item.result c.loop-piece-test.true c.piece-item.is), tt)

pub bytes_in-bytes_in_all-requires : goal.bytes_in-bytes_in_all-requires
bytes_in-bytes_in_all-requires t c = (lighter_pieces c.args.term.now c.in-Cat.pieces c.as_slice.result.now t c.in-Cat.is c.as_slice.ensures c.decreases, tt)

pub bytes_in_both-bytes_in-requires : goal.bytes_in_both-bytes_in-requires
bytes_in_both-bytes_in-requires t c = (omega (arith, c.decreases), tt)
