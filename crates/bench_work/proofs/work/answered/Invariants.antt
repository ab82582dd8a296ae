-- So far the answers have been repeated once for each round.
use Rattle.std.proofs.Common.{◌≡◌}
use Rattle.sealing.specs.Answer.{cram_digits}
use Rattle.bench_work.specs.Work.{repeated}
use Rattle.bench_work.proofs.work.answered.Given as goal

abbrev pub invariant-rounds : goal.invariant-rounds
invariant-rounds l = l.last ≡ repeated (λ last. cram_digits last l.secret) l.round l.fn.challenge
