-- So far the block has been encrypted once for each round.
use Rattle.std.proofs.Common.{◌≡◌}
use Rattle.des_block.specs.Schedule.{enciphered}
use Rattle.bench_work.specs.Work.{repeated}
use Rattle.bench_work.proofs.work.encrypted.Given as goal

abbrev pub invariant-rounds : goal.invariant-rounds
invariant-rounds l = l.last ≡ repeated (enciphered l.fn.key) l.round l.fn.block
