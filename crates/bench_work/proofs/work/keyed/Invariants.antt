-- So far the block has been encrypted under itself once for each round.
use Rattle.std.proofs.Common.{◌≡◌}
use Rattle.des_block.specs.Schedule.{enciphered}
use Rattle.bench_work.specs.Work.{repeated}
use Rattle.bench_work.proofs.work.keyed.Given as goal

abbrev pub invariant-rounds : goal.invariant-rounds
invariant-rounds l = l.last ≡ repeated (λ last. enciphered last last) l.round l.fn.block
