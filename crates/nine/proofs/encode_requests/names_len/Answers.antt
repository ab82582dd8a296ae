use Rattle.std.proofs.Common.{length, ap, arith}
use Rattle.wire_base.specs.Readers.{spelled}
use Rattle.nine.proofs.FrameLemmas.{part_len}
use Rattle.nine.proofs.encode_requests.names_len.Goals as goal

pub overflow_add-total : goal.overflow_add-total
overflow_add-total c =
    omega (arith, part_len spelled c.args.names.now c.loop-name.name-index c.name-item.result c.loop-name-test.true, ap length c.name-item.is, c.requires, c.len.ensures)

pub overflow_add-total-in-loop-name : goal.overflow_add-total-in-loop-name
overflow_add-total-in-loop-name c =
    omega (arith, part_len spelled c.args.names.now c.loop-name.name-index c.name-item.result c.loop-name-test.true, ap length c.name-item.is, c.loop-name.invariant, c.requires, c.len.ensures)
