use Rattle.std.proofs.Common.{arith}
use Rattle.file_tree.proofs.RecordLaws.{size_is, front_is}
use Rattle.file_tree.proofs.stat.front.Goals as goal

pub overflow_sub-record_size : goal.overflow_sub-record_size
overflow_sub-record_size c = omega (arith, c.record_size.ensures.size, size_is c.args.node)

pub returns : goal.returns
returns c = rw (c.to_le_bytes-size.ensures, c.to_le_bytes-path.ensures, c.to_le_bytes-mode.ensures, c.record_size.ensures.size, c.qid-qid.ensures, c.mode.ensures) (front_is c.args.node)
