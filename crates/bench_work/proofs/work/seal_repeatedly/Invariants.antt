-- So far the text has been sealed once for each round.
use Rattle.std.proofs.Common.{◌≡◌}
use Rattle.sealing.specs.Sealing.{sealed}
use Rattle.bench_work.specs.Work.{repeated}
use Rattle.bench_work.proofs.work.seal_repeatedly.Given as goal

abbrev pub invariant-rounds : goal.invariant-rounds
invariant-rounds l = l.text ≡ repeated (sealed l.key.0) l.round l.fn.text
